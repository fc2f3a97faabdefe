use Rattle.std.proofs.Common.{◌≡◌, true}
use Rattle.fd_rungs.specs.Sweeps.{are_still}
use Rattle.fd_rungs.proofs.iterate.are_still.Given as goal

abbrev pub invariant-loop-k : goal.invariant-loop-k
invariant-loop-k l = are_still l.x l.y l.k ≡ true
