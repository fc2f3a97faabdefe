use Rattle.std.proofs.Common.{◌≡◌, ◌+◌, ◌*◌, ◌^◌, take}
use Rattle.std.specs.List.{fold}
use Rattle.fd_rungs.specs.Numbers.{SizedBy}
use Rattle.fd_rungs.specs.Passes.{load_drawn}
use Rattle.fd_rungs.proofs.draws.draw_loads.Given as goal

abbrev pub invariant-loop-load : goal.invariant-loop-load
invariant-loop-load l = record {
  value : l.draws ≡ fold (load_drawn l.x) l.initial.draws (take l.load-index l.loads);
  size : SizedBy (l.load-index * 2 ^ 80) l.draws;
}
