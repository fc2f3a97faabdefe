use Rattle.std.proofs.Common.{◌≡◌, ◌+◌, ◌*◌, ◌^◌, take}
use Rattle.std.specs.List.{fold}
use Rattle.fd_rungs.specs.Numbers.{SizedBy}
use Rattle.fd_rungs.specs.Passes.{shunt_drawn}
use Rattle.fd_rungs.proofs.draws.draw_shunts.Given as goal

abbrev pub invariant-loop-shunt : goal.invariant-loop-shunt
invariant-loop-shunt l = record {
  value : l.draws ≡ fold (shunt_drawn l.x) l.initial.draws (take l.shunt-index l.shunts);
  size : SizedBy (2 ^ 101 + l.shunt-index * 2 ^ 80) l.draws;
}
