use Rattle.std.proofs.Common.{◌≡◌, map, take}
use Rattle.dss_layout.specs.Nodes.{node_at}
use Rattle.dss_layout.proofs.layout.Layout.nodes_at.Given as goal

abbrev pub invariant-loop-name : goal.invariant-loop-name
invariant-loop-name l = l.nodes.items ≡ map (node_at l.self.nodes) (take l.name-index l.names)
