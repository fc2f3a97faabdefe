use Rattle.std.proofs.Common.{◌≡◌, ◌^◌, length, drop, map}
use Rattle.fd_rungs.specs.Bounds.{branches_in}
use Rattle.fd_rungs.specs.Numbers.{SizedBy}
use Rattle.fd_rungs.specs.Passes.{forward}
use Rattle.fd_rungs.proofs.forward.forward.Given as goal

abbrev pub invariant-loop-rung : goal.invariant-loop-rung
invariant-loop-rung l = record {
  rest : forward (map branches_in (drop l.rung-index l.rungs)) l.x ≡ forward (map branches_in l.rungs) l.initial.x;
  small : SizedBy (2 ^ 40) l.x;
  long : length l.x ≡ length l.initial.x;
}
