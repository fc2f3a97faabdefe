use Rattle.std.proofs.Common.{◌∙◌, sym}
use Rattle.fd_enclosure.specs.fd_exact.States.{part}
use Rattle.fd_cert.proofs.RowBounds.{no_product}
use Rattle.fd_cert.proofs.Units.{when_none, when_some}
use Rattle.fd_cert.proofs.bounds.bound.Goals as goal

pub returns-then-is_some-clause-bound : goal.returns-then-is_some-clause-bound
returns-then-is_some-clause-bound c = λ J R w h.
    let n = c.args.slopes.now.jacobian.matrix.now.size in
    when_some c.sums.result _ (λ j q. no_product n (λ _. part c.args.factors.now) J R w c.args.row j q.0 q.1)
    (c.sums.ensures.past J h.jacobian) (sym c.is_some.ensures ∙ c.if-is_some.true)

pub bound_of_sums-requires-clause-sums : goal.bound_of_sums-requires-clause-sums
bound_of_sums-requires-clause-sums c = λ J has. when_none c.sums.result (c.sums.ensures.sums J has) (sym c.is_some.ensures ∙ c.if-is_some.false)
