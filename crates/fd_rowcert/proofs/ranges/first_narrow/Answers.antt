use Rattle.std.proofs.Common.{◌≡◌, ◌∙◌, ◌<◌, length, arith, sym, true, rules}
use Rattle.fd_cert.specs.fd_enclosure.fd_exact.FirstLaws.{first_none, first_some}
use Rattle.fd_rowcert.specs.Rechecks.{is_narrow}
use Rattle.fd_rowcert.proofs.ranges.first_narrow.Goals as goal

pub returns-then-is_below : goal.returns-then-is_below
returns-then-is_below c =
    let k = c.loop-unknown.unknown in
    let k_in : k < length c.args.bounds.now = search rules in
    let tested : is_narrow c.args.bounds.now c.args.radius.now k ≡ true = sym c.is_below.ensures ∙ c.if-is_below.true in
    sym (first_some (is_narrow c.args.bounds.now c.args.radius.now)
    (length c.args.bounds.now) k k_in c.loop-unknown.invariant tested)

pub returns : goal.returns
returns c =
    sym (first_none (is_narrow c.args.bounds.now c.args.radius.now) (length c.args.bounds.now)
    (λ k l. c.loop-unknown.invariant k (omega (arith, l, c.loop-unknown-test.false))))
