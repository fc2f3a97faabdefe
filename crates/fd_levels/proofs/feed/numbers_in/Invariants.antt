use Rattle.std.proofs.Common.{◌≡◌, map, take}
use Rattle.fd_ladder.specs.dss_layout.Nodes.{number_in}
use Rattle.fd_levels.proofs.feed.numbers_in.Given as goal

-- the numbers of the nodes so far
abbrev pub invariant-loop-name : goal.invariant-loop-name
invariant-loop-name l = l.numbers.items ≡ map (number_in l.layout.nodes) (take l.name-index l.names)
