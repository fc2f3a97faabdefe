use Rattle.std.proofs.Common.{◌≡◌, ◌^◌, length, drop}
use Rattle.fd_rungs.specs.Numbers.{SizedBy}
use Rattle.fd_rungs.specs.Passes.{magnitudes}
use Rattle.fd_rungs.proofs.iterate.make_magnitudes.Given as goal

abbrev pub invariant-loop-load : goal.invariant-loop-load
invariant-loop-load l = record {
  rest : magnitudes (drop l.load-index l.loads) l.x ≡ magnitudes l.loads l.initial.x;
  small : SizedBy (2 ^ 40) l.x;
  long : length l.x ≡ length l.initial.x;
}
