use Rattle.std.proofs.Common.{◌≡◌, ℕ, ◌+◌, ◌*◌, ◌≤◌, ◌^◌, length, drop}
use Rattle.fd_rungs.specs.Numbers.{SizedBy}
use Rattle.fd_rungs.specs.Passes.{backward_rung, flow_with}
use Rattle.fd_rungs.proofs.backward.backward_rung.Given as goal

abbrev pub invariant-loop-branch : goal.invariant-loop-branch
invariant-loop-branch l = record {
  rest : backward_rung (drop l.branch-index l.branches) (flow_with l.x l.draws) ≡ backward_rung l.branches (flow_with l.initial.x l.initial.draws);
  small : SizedBy (2 ^ 40) l.x;
  long : length l.x ≡ length l.initial.x;
  size : (n : ℕ) → SizedBy n l.initial.draws → SizedBy (n + l.branch-index * 2 ^ 80) l.draws;
}
