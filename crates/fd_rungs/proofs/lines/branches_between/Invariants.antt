use Rattle.std.proofs.Common.{◌≡◌, length}
use Rattle.std.specs.List.{All}
use Rattle.fd_rungs.specs.Branches.{IsBranch}
use Rattle.fd_rungs.specs.Elements.{each_below, line_branch}
use Rattle.fd_rungs.proofs.lines.branches_between.Given as goal

abbrev pub invariant-loop-k : goal.invariant-loop-k
invariant-loop-k l = record {
  value : l.branches.items ≡ each_below (line_branch l.line l.inner l.outer l.from l.outward) l.k;
  count : length l.branches.items ≡ l.k;
  small : All IsBranch l.branches.items;
}
