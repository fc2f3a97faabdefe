use Rattle.std.proofs.Common.{◌≡◌, length}
use Rattle.std.specs.List.{All}
use Rattle.fd_rungs.specs.Branches.{IsBranch}
use Rattle.fd_rungs.specs.Elements.{each_below, transformer_phase}
use Rattle.fd_rungs.proofs.transformers.branches_by.Given as goal

abbrev pub invariant-loop-k : goal.invariant-loop-k
invariant-loop-k l = record {
  value : l.branches.items ≡ each_below (transformer_phase l.numbers l.xfmr l.at) l.k;
  count : length l.branches.items ≡ l.k;
  small : All IsBranch l.branches.items;
}
