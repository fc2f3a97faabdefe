use Rattle.std.proofs.Common.{◌≡◌, ◌+◌, ◌*◌, ◌++◌, ◌≤◌, length}
use Rattle.std.specs.List.{All}
use Rattle.fd_pattern.specs.fd_system.Contributions.{concat_below}
use Rattle.fd_rungs.specs.Branches.{IsShunt}
use Rattle.fd_rungs.specs.Elements.{charge_of, each_below}
use Rattle.fd_rungs.proofs.lines.add_charges.Given as goal

abbrev pub invariant-loop-k : goal.invariant-loop-k
invariant-loop-k l = record {
  value : l.shunts.items ≡ l.initial.shunts.items ++ concat_below (λ k. each_below (charge_of l.line l.nodes k) l.line.phases) l.k;
  count : length l.shunts.items ≤ length l.initial.shunts.items + l.k * 3;
  small : All IsShunt l.shunts.items;
}
