use Rattle.std.proofs.Common.{◌≡◌}
use Rattle.fd_devices.specs.Reach.{branch_places}
use Rattle.fd_devices.proofs.reached.branch_places.Given as goal

abbrev pub invariant-loop-k : goal.invariant-loop-k
invariant-loop-k l = l.at.items ≡ branch_places l.branch l.k
