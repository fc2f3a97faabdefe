use Rattle.std.proofs.Common.{◌≡◌, drop}
use Rattle.fd_levels.specs.Feeds.{turned_from, turned_in}
use Rattle.fd_levels.proofs.sides.turned_in.Given as goal

-- what the elements that are left make of it is what all make
abbrev pub invariant-loop-number : goal.invariant-loop-number
invariant-loop-number l = turned_from l.elements.entries l.reached.keys l.turned.items (drop l.number-index l.order) ≡ turned_in l.elements.entries
