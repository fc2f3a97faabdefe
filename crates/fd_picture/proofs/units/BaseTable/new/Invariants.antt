use Rattle.std.proofs.Common.{take}
use Rattle.fd_picture.specs.Bases.{HoldsLast}
use Rattle.fd_picture.proofs.units.BaseTable.new.Given as goal

abbrev pub invariant-loop-base : goal.invariant-loop-base
invariant-loop-base l = HoldsLast l.last (take l.base-index l.bases)
