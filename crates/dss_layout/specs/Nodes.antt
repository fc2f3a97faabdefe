-- Nodes of buses, by name.
use Rattle.std.specs.Prelude.{ℕ, ◌==◌, Bool, not, ◌&&◌, List, [], ◌∷◌, ◌++◌, if◌then◌else◌}
use Rattle.std.specs.List.{list_any, position_or_len}
use Rattle.dss_model.specs.dss_lexer.Texts.{text_eq}
use Rattle.dss_layout.specs.declared.nodes.NodeName.{NodeName}
use Rattle.dss_model.specs.fd_arith.declared.terms.NodeAt.{NodeAt}
use Rattle.dss_model.specs.fd_arith.declared.terms.NodeAt.TheVariants.{Ground, Node}

-- the same number at the same bus
abbrev pub same_node : NodeName → NodeName → Bool
same_node a b = text_eq a.bus b.bus && (a.number == b.number)

-- number 0 is ground, which is no node
abbrev pub is_node : NodeName → Bool
is_node name = not (name.number == 0)

-- the nodes of a list that none of those before names, each where it is mentioned first
abbrev pub new_nodes : List NodeName → List NodeName → List NodeName
new_nodes before [] = []
new_nodes before (m ∷ ms) = if list_any (same_node m) before then new_nodes before ms else m ∷ new_nodes (before ++ m ∷ []) ms

-- the number of a node among those in order
abbrev pub number_in : List NodeName → NodeName → ℕ
number_in nodes name = position_or_len (same_node name) nodes

-- where a node stands in the equations
abbrev pub node_at : List NodeName → NodeName → NodeAt
node_at nodes name = if is_node name then Node (number_in nodes name) else Ground
