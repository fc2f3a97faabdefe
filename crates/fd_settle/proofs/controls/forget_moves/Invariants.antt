use Rattle.std.proofs.Common.{◌≡◌, ◌++◌, map, take, drop}
use Rattle.fd_settle.specs.Acting.{rested}
use Rattle.fd_settle.proofs.controls.forget_moves.Given as goal

abbrev pub invariant-loop-state : goal.invariant-loop-state
invariant-loop-state l = l.states ≡ map rested (take l.state-index l.fn.states) ++ drop l.state-index l.fn.states
