use Rattle.fd_lines.proofs.Numerals.{digit_some, digit_none}
use Rattle.fd_lines.proofs.number.size.Goals as goal

pub returns-in-None : goal.returns-in-None
returns-in-None c = digit_none c.args.digits.now c.loop-digit.digit-index c.loop-digit.value c.loop-digit-test.true
    c.loop-digit.invariant.worth (rw c.in-None.is at c.with_digit.ensures)

pub loop-digit-preserved : goal.loop-digit-preserved
loop-digit-preserved c =
    let s = digit_some c.args.digits.now c.loop-digit.digit-index c.loop-digit.value c.in-Some.next
    c.loop-digit-test.true c.loop-digit.invariant.digits c.loop-digit.invariant.worth
    (rw c.in-Some.is at c.with_digit.ensures) in
    record { digits = s.0; worth = s.1 }
