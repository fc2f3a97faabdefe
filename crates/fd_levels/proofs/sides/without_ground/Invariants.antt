use Rattle.std.proofs.Common.{◌≡◌, ◌++◌, filter}
use Rattle.fd_ladder.specs.dss_layout.Nodes.{is_node}
use Rattle.fd_levels.proofs.sides.without_ground.Given as goal

-- the nodes so far, and those that are left, are those of all
abbrev pub invariant-loop-node : goal.invariant-loop-node
invariant-loop-node l = l.names.items ++ filter is_node l.node-iterator.rest.items ≡ filter is_node l.fn.nodes
