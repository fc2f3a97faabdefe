use Rattle.std.proofs.Common.{◌≡◌, ℕ, Option, [], length}
use Rattle.fd_levels.specs.Grouping.{AreGroupsOf}
use Rattle.fd_levels.proofs.group.no_groups.Given as goal

-- the groups so far are empty
abbrev pub invariant-loop-level : goal.invariant-loop-level
invariant-loop-level l = record {
  long : length l.groups.items ≡ l._level;
  none : (level : ℕ → Option ℕ) → AreGroupsOf level [] l.groups.items;
}
