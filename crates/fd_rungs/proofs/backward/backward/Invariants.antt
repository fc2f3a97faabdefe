use Rattle.std.proofs.Common.{◌≡◌, ℕ, ◌+◌, ◌*◌, ◌-◌, ◌≤◌, ◌^◌, length, drop, map, Ok}
use Rattle.fd_rungs.specs.Bounds.{branches_in}
use Rattle.fd_rungs.specs.Numbers.{SizedBy}
use Rattle.fd_rungs.specs.Passes.{backward, flow_with}
use Rattle.fd_rungs.proofs.backward.backward.Given as goal

abbrev pub invariant-loop-left : goal.invariant-loop-left
invariant-loop-left l = record {
  made : backward (map branches_in (drop l.left l.rungs)) (flow_with l.initial.x l.initial.draws) ≡ Ok (flow_with l.x l.draws);
  small : SizedBy (2 ^ 40) l.x;
  long : length l.x ≡ length l.initial.x;
  within : l.left ≤ length l.rungs;
  size : SizedBy (2 ^ 105 + (length l.rungs - l.left) * 2 ^ 82) l.draws;
}

abbrev pub decreases-loop-left : goal.decreases-loop-left
decreases-loop-left l = l.left
