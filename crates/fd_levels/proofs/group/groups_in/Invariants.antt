use Rattle.std.proofs.Common.{◌≡◌, length, take}
use Rattle.fd_levels.specs.Grouping.{AreGroupsOf}
use Rattle.fd_levels.specs.Levels.{level_in}
use Rattle.fd_levels.proofs.group.groups_in.Given as goal

-- the groups of the feeds so far
abbrev pub invariant-loop-feed : goal.invariant-loop-feed
invariant-loop-feed l = record {
  long : length l.groups.items ≡ l.count;
  groups : AreGroupsOf (level_in l.levels) (take l.feed-index l.feeds) l.groups.items;
}
