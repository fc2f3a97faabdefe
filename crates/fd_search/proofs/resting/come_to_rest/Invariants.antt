use Rattle.std.proofs.Common.{◌≡◌, ◌<◌}
use Rattle.fd_inject.specs.fd_equations.fd_pattern.Conditions.{IsPoint}
use Rattle.fd_search.specs.States.{AreMoving, state_after}
use Rattle.fd_search.proofs.resting.come_to_rest.Given as goal

abbrev pub invariant-loop-number : goal.invariant-loop-number
invariant-loop-number l = record {
  state : l.x ≡ state_after l.net l.order l.rows l.initial.x l.number;
  moving : AreMoving l.net l.order l.rows l.initial.x l.limits l.number;
  room : l.number < l.limits.max_iterations;
  point : IsPoint l.net l.x;
}
