use Rattle.std.proofs.Common.{arith}
use Rattle.std.proofs.lemmas.Int.{ints}
use Rattle.fd_arith.specs.Nearest.{near_negative, near_positive}
use Rattle.fd_arith.proofs.quotient.near_of.Goals as goal

pub returns-then-negative : goal.returns-then-negative
returns-then-negative c =
    near_negative c.args.division.now.quotient c.args.division.now.rest c.args.d c.rounded_near-size.result
    c.requires.rest c.rounded_near-size.ensures.down c.rounded_near-size.ensures.up c.args.negative _
    c.if-negative.true (omega (arith, ints))

pub returns-else-negative : goal.returns-else-negative
returns-else-negative c =
    near_positive c.args.division.now.quotient c.args.division.now.rest c.args.d c.rounded_near-size.result
    c.requires.rest c.rounded_near-size.ensures.down c.rounded_near-size.ensures.up c.args.negative _
    c.if-negative.false (omega (arith, ints))
