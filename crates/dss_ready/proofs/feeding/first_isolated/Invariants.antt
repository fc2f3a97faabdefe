use Rattle.std.proofs.Common.{take, All}
use Rattle.dss_ready.specs.Feeding.{IsFed}
use Rattle.dss_ready.proofs.feeding.first_isolated.Given as goal

abbrev pub invariant-loop-place : goal.invariant-loop-place
invariant-loop-place l = All (IsFed l.elements.entries) (take l.place l.elements.entries)
