use Rattle.std.proofs.Common.{◌≡◌, ◌^◌, length, drop}
use Rattle.fd_rungs.specs.Numbers.{SizedBy}
use Rattle.fd_rungs.specs.Passes.{forward_rung}
use Rattle.fd_rungs.proofs.forward.forward_rung.Given as goal

abbrev pub invariant-loop-branch : goal.invariant-loop-branch
invariant-loop-branch l = record {
  rest : forward_rung (drop l.branch-index l.branches) l.x ≡ forward_rung l.branches l.initial.x;
  small : SizedBy (2 ^ 40) l.x;
  long : length l.x ≡ length l.initial.x;
}
