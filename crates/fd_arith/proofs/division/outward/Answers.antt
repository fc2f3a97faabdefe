use Rattle.std.proofs.Common.{◌≤◌, ◌^◌, arith, sym}
use Rattle.std.proofs.lemmas.Int.{ints}
use Rattle.fd_arith.specs.Capping.{outward_past, outward_negative, outward_positive}
use Rattle.fd_arith.proofs.division.outward.Goals as goal

pub returns-then-up-clause-ends : goal.returns-then-up-clause-ends
returns-then-up-clause-ends c = λ d h.
    sym (outward_past c.args.division.quotient c.args.division.rest d c.rounded_up-up.result h
    c.rounded_up-up.ensures.exact c.rounded_up-up.ensures.more c.args.negative (omega (arith, ints)))

pub returns-then-negative-clause-ends : goal.returns-then-negative-clause-ends
returns-then-negative-clause-ends c = λ d h. let q : c.rounded_up-up.result ≤ 2 ^ 120 = omega (arith, ints) in
    outward_negative c.args.division.quotient c.args.division.rest d c.rounded_up-up.result h
    c.rounded_up-up.ensures.exact c.rounded_up-up.ensures.more c.args.negative _ _ q c.if-negative.true
    (omega (arith, ints)) (omega (arith, ints))

pub returns-else-negative-clause-ends : goal.returns-else-negative-clause-ends
returns-else-negative-clause-ends c = λ d h. let q : c.rounded_up-up.result ≤ 2 ^ 120 = omega (arith, ints) in
    outward_positive c.args.division.quotient c.args.division.rest d c.rounded_up-up.result h
    c.rounded_up-up.ensures.exact c.rounded_up-up.ensures.more c.args.negative _ _ q c.if-negative.false
    (omega (arith, ints)) (omega (arith, ints))
