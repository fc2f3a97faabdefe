use Rattle.std.proofs.Common.{◌≡◌, ◌++◌, drop}
use Rattle.fd_levels.specs.Feeds.{feeds_from}
use Rattle.fd_levels.proofs.feed.feeds_in.Given as goal

-- the feeds so far, and those of the elements that are left, are those of all
abbrev pub invariant-loop-number : goal.invariant-loop-number
invariant-loop-number l =
    l.feeds.items ++ feeds_from l.layout l.turned l.number (drop l.number l.elements.entries)
    ≡ feeds_from l.layout l.turned 0 l.elements.entries
