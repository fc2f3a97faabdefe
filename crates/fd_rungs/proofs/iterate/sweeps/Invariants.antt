use Rattle.std.proofs.Common.{◌≡◌, ◌-◌, ◌^◌, length}
use Rattle.fd_rungs.specs.Bounds.{ladder_in}
use Rattle.fd_rungs.specs.Numbers.{SizedBy}
use Rattle.fd_rungs.specs.Sweeps.{sweeps_from, sweeps_of}
use Rattle.fd_rungs.proofs.iterate.sweeps.Given as goal

abbrev pub invariant-loop-sweep : goal.invariant-loop-sweep
invariant-loop-sweep l = record {
  rest : sweeps_from (ladder_in l.ladder) l.loads l.nodes (l.most - l.sweep) l.sweep l.x.items
      ≡ sweeps_of (ladder_in l.ladder) l.loads l.nodes l.size l.most;
  small : SizedBy (2 ^ 40) l.x.items;
}
