use Rattle.std.proofs.Common.{◌≡◌, ◌+◌, ◌++◌, length}
use Rattle.std.specs.List.{All}
use Rattle.fd_rungs.specs.Branches.{IsShunt}
use Rattle.fd_rungs.specs.Elements.{charge_of, each_below}
use Rattle.fd_rungs.proofs.lines.add_charges_at.Given as goal

abbrev pub invariant-loop-m : goal.invariant-loop-m
invariant-loop-m l = record {
  value : l.shunts.items ≡ l.initial.shunts.items ++ each_below (charge_of l.line l.nodes l.k) l.m;
  count : length l.shunts.items ≡ length l.initial.shunts.items + l.m;
  small : All IsShunt l.shunts.items;
}
