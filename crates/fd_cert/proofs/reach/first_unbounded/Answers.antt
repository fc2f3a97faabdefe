use Rattle.std.proofs.Common.{◌≡◌, ◌∙◌, nat_abs, not, ap, length, below_more, sym, arith, FitsSigned, rules}
use Rattle.std.specs.Int.{w128}
use Rattle.std.proofs.lemmas.Int.{to_z-of_z}
use Rattle.fd_enclosure.specs.fd_exact.FirstLaws.{first_none, first_some}
use Rattle.fd_enclosure.specs.fd_exact.States.{part}
use Rattle.fd_cert.specs.Reaches.{bound_in, is_unbounded}
use Rattle.fd_cert.proofs.Verdict.{tested_is}
use Rattle.fd_cert.proofs.reach.first_unbounded.Goals as goal

pub returns-then-not-is_below_one-clause-first : goal.returns-then-not-is_below_one-clause-first
returns-then-not-is_below_one-clause-first c =
    let i = c.loop-place.place in
    let f : FitsSigned w128 (part c.args.weights.now i) = search rules in
    let w : c.unsigned_abs-weight.result ≡ nat_abs (part c.args.weights.now i) = simp to_z-of_z at c.unsigned_abs-weight.ensures.value in
    let tested = tested_is c.is_below_one.result c.named.result (bound_in c.args.bounds.now i)
    c.unsigned_abs-weight.result c.args.reach (part c.args.weights.now i) c.is_below_one.ensures c.named.ensures w in
    sym (first_some (is_unbounded c.args.weights.now c.args.reach c.args.bounds.now) (length c.args.bounds.now) i
    c.loop-place-test.true c.loop-place.invariant (sym tested ∙ ap not c.if-not-is_below_one.true))

pub loop-place-preserved : goal.loop-place-preserved
loop-place-preserved c =
    let i = c.loop-place.place in
    let f : FitsSigned w128 (part c.args.weights.now i) = search rules in
    let w : c.unsigned_abs-weight.result ≡ nat_abs (part c.args.weights.now i) = simp to_z-of_z at c.unsigned_abs-weight.ensures.value in
    let tested = tested_is c.is_below_one.result c.named.result (bound_in c.args.bounds.now i)
    c.unsigned_abs-weight.result c.args.reach (part c.args.weights.now i) c.is_below_one.ensures c.named.ensures w in
    below_more _ _ c.loop-place.invariant (sym tested ∙ ap not c.if-not-is_below_one.false)

pub returns-clause-first : goal.returns-clause-first
returns-clause-first c =
    sym (first_none (is_unbounded c.args.weights.now c.args.reach c.args.bounds.now) (length c.args.bounds.now)
    (λ j l. c.loop-place.invariant j (omega arith)))
