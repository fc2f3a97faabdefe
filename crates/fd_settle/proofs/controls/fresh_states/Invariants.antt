use Rattle.std.proofs.Common.{◌≡◌, take}
use Rattle.fd_settle.specs.Acting.{fresh_from}
use Rattle.fd_settle.proofs.controls.fresh_states.Given as goal

abbrev pub invariant-loop-control : goal.invariant-loop-control
invariant-loop-control l = l.states.items ≡ fresh_from l.opened 0 (take l.control l.probes)
