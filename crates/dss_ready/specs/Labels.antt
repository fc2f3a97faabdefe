-- Labels of nodes: two nodes have one label where they are tied.
use Rattle.std.specs.Prelude.{ℕ, ◌+◌, ◌==◌, Bool, not, List, [], ◌∷◌, ◌++◌, length, map, if◌then◌else◌, slice_index}
use Rattle.std.specs.List.{flat_map, range_with_len, list_any}
use Rattle.dss_circuit.specs.dss_model.declared.element.Element.{Element}
use Rattle.dss_layout.specs.declared.nodes.NodeName.{NodeName}
use Rattle.dss_layout.specs.Nodes.{number_in}
use Rattle.dss_layout.specs.Terminals.{mentions}
use Rattle.dss_layout.specs.Layout.{Elements}
use Rattle.dss_ready.specs.Feeding.{source_nodes, tied_nodes}

-- the places with the label of the pair's second take that of its first
abbrev pub joined : List ℕ → ℕ × ℕ → List ℕ
joined labels pair = map (λ l. if l == slice_index labels pair.1 then slice_index labels pair.0 else l) labels

abbrev pub joined_all : List ℕ → List (ℕ × ℕ) → List ℕ
joined_all labels [] = labels
joined_all labels (pair ∷ pairs) = joined_all (joined labels pair) pairs

-- each of these nodes with this place
abbrev pub pairs_with : List NodeName → ℕ → List NodeName → List (ℕ × ℕ)
pairs_with nodes place names = map (λ m. (place, number_in nodes m)) names

-- the first node of a group with each other one
abbrev pub group_pairs : List NodeName → List NodeName → List (ℕ × ℕ)
group_pairs nodes [] = []
group_pairs nodes (m ∷ ms) = pairs_with nodes (number_in nodes m) ms

-- the place after the nodes, which stands for what every source feeds, with each node of a source, and the groups
abbrev pub element_pairs : List NodeName → Element → List (ℕ × ℕ)
element_pairs nodes element = pairs_with nodes (length nodes) (source_nodes element) ++ flat_map (group_pairs nodes) (tied_nodes element)

abbrev pub all_pairs : List NodeName → Elements → List (ℕ × ℕ)
all_pairs nodes elements = flat_map (λ e. element_pairs nodes e.1) elements

-- each place has a label of its own
abbrev pub own_labels : List NodeName → List ℕ
own_labels nodes = range_with_len 0 (length nodes + 1)

abbrev pub labels_of : List NodeName → Elements → List ℕ
labels_of nodes elements = joined_all (own_labels nodes) (all_pairs nodes elements)

-- some node that the element mentions has another label than the sources
abbrev pub mentions_apart : List NodeName → List ℕ → Element → Bool
mentions_apart nodes labels element = list_any (λ m. not (slice_index labels (number_in nodes m) == slice_index labels (length nodes))) (mentions element)
