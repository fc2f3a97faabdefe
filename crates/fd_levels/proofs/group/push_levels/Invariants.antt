use Rattle.std.proofs.Common.{◌≡◌, ◌≤◌, ◌++◌}
use Rattle.std.specs.List.{flat_map}
use Rattle.fd_levels.specs.Levels.{level_in}
use Rattle.fd_levels.specs.Order.{down_from, level_pairs}
use Rattle.fd_levels.proofs.group.push_levels.Given as goal

-- the pairs so far, and those of the levels that are left, are those of all
abbrev pub invariant-loop-level : goal.invariant-loop-level
invariant-loop-level l = record {
  inside : l.level ≤ l.count;
  rest : l.pairs.items ++ flat_map (level_pairs (level_in l.levels) l.feeds) (down_from l.level)
      ≡ l.fn.pairs.items ++ flat_map (level_pairs (level_in l.levels) l.feeds) (down_from l.count);
}

abbrev pub decreases-loop-level : goal.decreases-loop-level
decreases-loop-level l = l.level
