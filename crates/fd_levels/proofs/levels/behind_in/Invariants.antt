use Rattle.std.proofs.Common.{take}
use Rattle.fd_levels.specs.Marking.{AreBehind}
use Rattle.fd_levels.proofs.levels.behind_in.Given as goal

-- the far buses of the feeds so far
abbrev pub invariant-loop-feed : goal.invariant-loop-feed
invariant-loop-feed l = AreBehind l.count (take l.feed-index l.feeds) l.behind.items
