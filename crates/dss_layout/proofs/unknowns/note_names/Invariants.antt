use Rattle.std.proofs.Common.{◌≡◌, ◌++◌, filter}
use Rattle.dss_layout.specs.Nodes.{new_nodes, is_node}
use Rattle.dss_layout.proofs.unknowns.note_names.Given as goal

-- the nodes so far, and what the rest of the names adds, are what all names give
abbrev pub invariant-loop-name : goal.invariant-loop-name
invariant-loop-name l =
    l.nodes.keys ++ new_nodes l.nodes.keys (filter is_node l.name-iterator.rest.items)
    ≡ l.fn.nodes.keys ++ new_nodes l.fn.nodes.keys (filter is_node l.fn.names)
