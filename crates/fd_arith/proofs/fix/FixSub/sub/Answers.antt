use Rattle.fd_arith.proofs.SignedUnits.{difference_signed, difference_known, difference_from_none, difference_with_none}
use Rattle.fd_arith.proofs.fix.FixSub.sub.Goals as goal

pub returns-in_default : goal.returns-in_default
returns-in_default g c = difference_from_none _ c.in_default.ensures.units c.out.ensures

pub returns-in_default-units : goal.returns-in_default-units
returns-in_default-units g c = difference_with_none _ c.in_default-units.ensures.units c.out-in_default-units.ensures

pub overflow_sub-a : goal.overflow_sub-a
overflow_sub-a g c = difference_signed _ _ c.in-Some.ensures.valid c.in-Some-units.ensures.valid

pub returns : goal.returns
returns g c =
    difference_known _ _ c.in-Some.ensures.valid c.in-Some-units.ensures.valid c.in-Some.ensures.units
    c.in-Some-units.ensures.units c.new.ensures
