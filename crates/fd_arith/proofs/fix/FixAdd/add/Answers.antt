use Rattle.fd_arith.proofs.SignedUnits.{sum_signed, sum_known, sum_from_none, sum_with_none}
use Rattle.fd_arith.proofs.fix.FixAdd.add.Goals as goal

pub returns-in_default : goal.returns-in_default
returns-in_default g c = sum_from_none _ c.in_default.ensures.units c.out.ensures

pub returns-in_default-units : goal.returns-in_default-units
returns-in_default-units g c = sum_with_none _ c.in_default-units.ensures.units c.out-in_default-units.ensures

pub overflow_add-a : goal.overflow_add-a
overflow_add-a g c = sum_signed _ _ c.in-Some.ensures.valid c.in-Some-units.ensures.valid

pub returns : goal.returns
returns g c =
    sum_known _ _ c.in-Some.ensures.valid c.in-Some-units.ensures.valid c.in-Some.ensures.units
    c.in-Some-units.ensures.units c.new.ensures
