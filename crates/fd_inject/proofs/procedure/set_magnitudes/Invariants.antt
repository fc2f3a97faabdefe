use Rattle.std.proofs.Common.{◌≡◌, take}
use Rattle.std.specs.List.{fold}
use Rattle.fd_inject.specs.Procedure.{with_nominal}
use Rattle.fd_inject.proofs.procedure.set_magnitudes.Given as goal

abbrev pub invariant-loop-load : goal.invariant-loop-load
invariant-loop-load l = l.x ≡ fold with_nominal l.initial.x (take l.load-index l.loads)
