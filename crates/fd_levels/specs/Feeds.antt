-- How each source, Line and Transformer of a radial circuit is fed: from which bus, and its far nodes.
use Rattle.std.specs.Prelude.{ℕ, suc, Bool, false, not, List, [], ◌∷◌, ◌++◌, filter, get_or, length, map, replicate, set, slice_get, Option, Some, None, if◌then◌else◌}
use Rattle.std.specs.List.{list_all, list_any, position_or_len}
use Rattle.fd_ladder.specs.dss_layout.Layout.{Elements, LayoutView, first_branch, branch_phases, layout_of}
use Rattle.fd_ladder.specs.dss_layout.Nodes.{is_node, number_in}
use Rattle.fd_ladder.specs.dss_layout.Terminals.{terminals_of}
use Rattle.fd_ladder.specs.dss_layout.declared.nodes.NodeName.{NodeName}
use Rattle.fd_ladder.specs.dss_layout.dss_lexer.Texts.{text_eq}
use Rattle.fd_ladder.specs.dss_model.declared.element.Element.{Element}
use Rattle.fd_ladder.specs.dss_model.declared.element.Element.TheVariants as the
use Rattle.fd_ladder.specs.dss_model.declared.names.ElementName.{ElementName}
use Rattle.fd_ladder.specs.Radial.{is_reached, order_of, reach_all}
use Rattle.fd_ladder.specs.Sections.{source_nodes}
use Rattle.fd_levels.specs.declared.feed.Feed.{Feed}

-- ---- buses

-- the buses of these nodes that none of those before is, each where it is mentioned first
abbrev pub new_buses : List (List ℕ) → List NodeName → List (List ℕ)
new_buses before [] = []
new_buses before (m ∷ ms) = if list_any (text_eq m.bus) before then new_buses before ms else m.bus ∷ new_buses (before ++ m.bus ∷ []) ms

-- the buses of a circuit, in order of first mention
abbrev pub buses_of : List NodeName → List (List ℕ)
buses_of nodes = new_buses [] nodes

-- the number of the bus of these nodes; where there are none it is the number behind the last bus, which stands for ground
abbrev pub bus_in : List (List ℕ) → List NodeName → ℕ
bus_in buses [] = length buses
bus_in buses (node ∷ nodes) = position_or_len (text_eq node.bus) buses

-- ---- the two sides of an element

-- the nodes at its first bus, without ground
abbrev pub first_nodes : Element → List NodeName
first_nodes element = filter is_node (terminals_of element).first

-- and at its second
abbrev pub second_nodes : Element → List NodeName
second_nodes element = filter is_node (terminals_of element).second

-- not all nodes at its first bus are reached
abbrev pub is_turned : List NodeName → Option (ElementName × Element) → Bool
is_turned reached None = false
is_turned reached (Some e) = not (list_all (is_reached reached) (first_nodes e.1))

-- the nodes of an element are reached too
abbrev pub with_nodes : List NodeName → Option (ElementName × Element) → List NodeName
with_nodes reached None = reached
with_nodes reached (Some e) = reach_all (reach_all reached (first_nodes e.1)) (second_nodes e.1)

-- for each element, by number, whether it is taken from its second bus, where elements are taken in this order
abbrev pub turned_from : Elements → List NodeName → List Bool → List ℕ → List Bool
turned_from elements reached turned [] = turned
turned_from elements reached turned (number ∷ order) =
    let e = slice_get elements number in
    turned_from elements (with_nodes reached e) (set turned number (is_turned reached e)) order

abbrev pub turned_in : Elements → List Bool
turned_in elements =
    turned_from elements (reach_all [] (source_nodes elements)) (replicate (length elements) false) (order_of elements)

-- ---- feeds

-- so many phases from a first branch on, which lead from the bus of the near nodes to the far nodes, a phase to each
abbrev pub feed : LayoutView → ℕ → ℕ → List NodeName → List NodeName → Feed
feed layout branch phases near far = record {
  near = bus_in (buses_of layout.nodes) near;
  far = bus_in (buses_of layout.nodes) far;
  branch = branch;
  phases = phases;
  nodes = map (number_in layout.nodes) far;
}

abbrev pub turned_feed : LayoutView → Bool → ℕ → ℕ → List NodeName → List NodeName → Feed
turned_feed layout turned branch phases first second = (if turned then feed layout branch phases second first else feed layout branch phases first second)

-- how the element of this number is fed: a source has no near nodes, and leads to its own
abbrev pub feed_at : LayoutView → Bool → ℕ → Element → List Feed
feed_at layout turned number (the.Vsource v) =
    let e = the.Vsource v in feed layout (first_branch layout number e) (branch_phases e) [] (first_nodes e) ∷ []
feed_at layout turned number (the.Line l) =
    let e = the.Line l in turned_feed layout turned (first_branch layout number e) (branch_phases e) (first_nodes e) (second_nodes e) ∷ []
feed_at layout turned number (the.Transformer t) =
    let e = the.Transformer t in
    turned_feed layout turned (first_branch layout number e) (branch_phases e) (first_nodes e) (second_nodes e) ∷ []
feed_at layout turned number other = []

-- of these elements, in order of definition, of which the first has this number
abbrev pub feeds_from : LayoutView → List Bool → ℕ → Elements → List Feed
feeds_from layout turned number [] = []
feeds_from layout turned number (e ∷ es) = feed_at layout (get_or turned number false) number e.1 ++ feeds_from layout turned (suc number) es

unfoldable pub feeds_of : Elements → List Feed
feeds_of elements = feeds_from (layout_of elements) (turned_in elements) 0 elements
