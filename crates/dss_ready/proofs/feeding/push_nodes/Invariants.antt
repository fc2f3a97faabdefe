use Rattle.std.proofs.Common.{◌≡◌, ◌++◌, filter}
use Rattle.dss_layout.specs.Nodes.{is_node}
use Rattle.dss_ready.proofs.feeding.push_nodes.Given as goal

abbrev pub invariant-loop-node : goal.invariant-loop-node
invariant-loop-node l = l.names.items ++ filter is_node l.node-iterator.rest.items ≡ l.fn.names.items ++ filter is_node l.fn.nodes
