use Rattle.std.proofs.Common.{◌≡◌, ◌+◌, ◌++◌, length}
use Rattle.std.specs.List.{All}
use Rattle.fd_rungs.specs.Branches.{IsShunt}
use Rattle.fd_rungs.specs.Elements.{bank_phase, each_below}
use Rattle.fd_rungs.proofs.banks.add_phases.Given as goal

abbrev pub invariant-loop-k : goal.invariant-loop-k
invariant-loop-k l = record {
  value : l.shunts.items ≡ l.initial.shunts.items ++ each_below (bank_phase l.bank l.at) l.k;
  count : length l.shunts.items ≡ length l.initial.shunts.items + l.k;
  small : All IsShunt l.shunts.items;
}
