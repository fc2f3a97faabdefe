use Rattle.std.proofs.Common.{◌≡◌, length}
use Rattle.std.specs.List.{All}
use Rattle.fd_rungs.specs.Branches.{IsBranch}
use Rattle.fd_rungs.specs.Elements.{each_below, source_branch}
use Rattle.fd_rungs.proofs.sources.source_rung.Given as goal

abbrev pub invariant-loop-k : goal.invariant-loop-k
invariant-loop-k l = record {
  value : l.branches.items ≡ each_below (source_branch l.source l.at) l.k;
  count : length l.branches.items ≡ l.k;
  small : All IsBranch l.branches.items;
}
