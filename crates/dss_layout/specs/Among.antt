-- A node among others.
use Rattle.std.specs.Prelude.{IsTrue, List}
use Rattle.std.specs.List.{list_any}
use Rattle.dss_layout.specs.declared.nodes.NodeName.{NodeName}
use Rattle.dss_layout.specs.Nodes.{same_node}

-- a node is one of those in order
abbrev pub IsAmong : List NodeName → NodeName → Type 0
IsAmong nodes name = IsTrue (list_any (same_node name) nodes)
