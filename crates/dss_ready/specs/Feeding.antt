-- Which nodes a source feeds.
use Rattle.std.specs.Prelude.{◌≡◌, ℕ, List, [], ◌∷◌, take, map, filter, All, Contains, Option, Some, None, slice_get}
use Rattle.std.specs.List.{flat_map, zip}
use Rattle.dss_circuit.specs.dss_model.declared.element.Element.{Element}
use Rattle.dss_circuit.specs.dss_model.declared.element.Element.TheVariants as the
use Rattle.dss_circuit.specs.dss_model.declared.names.ElementName.{ElementName}
use Rattle.dss_layout.specs.declared.nodes.NodeName.{NodeName}
use Rattle.dss_layout.specs.declared.terminals.Terminals.{Terminals}
use Rattle.dss_layout.specs.Nodes.{is_node}
use Rattle.dss_layout.specs.Terminals.{mentions, terminals_of}
use Rattle.dss_layout.specs.Layout.{Elements}

-- the nodes of a source
abbrev pub source_nodes : Element → List NodeName
source_nodes (the.Vsource v) = mentions (the.Vsource v)
source_nodes other = []

-- the two ends of each phase, without ground
abbrev pub phase_ends : Terminals → List (List NodeName)
phase_ends t = map (λ p. filter is_node (p.0 ∷ p.1 ∷ [])) (zip t.first t.second)

-- groups of nodes, of which all are fed where one is: the two ends of each phase of a line, and all nodes of a transformer
abbrev pub tied_nodes : Element → List (List NodeName)
tied_nodes (the.Line l) = phase_ends (terminals_of (the.Line l))
tied_nodes (the.Transformer t) = mentions (the.Transformer t) ∷ []
tied_nodes other = []

-- a node is fed where it is a source's, or is tied to one that is fed
pub data Fed (elements : Elements) : NodeName → Type 0 where
  by_source : (node : NodeName) → Contains (flat_map (λ e. source_nodes e.1) elements) node → Fed elements node
  by_tie : (group : List NodeName) (from to : NodeName) → Contains (flat_map (λ e. tied_nodes e.1) elements) group
      → Contains group from → Contains group to → Fed elements from → Fed elements to

-- every node that the element mentions is fed
abbrev pub IsFed : Elements → ElementName × Element → Type 0
IsFed elements e = All (Fed elements) (mentions e.1)

-- the element mentions a node that isn't fed
pub record IsIsolated (elements : Elements) (e : ElementName × Element) : Type 0 where
  pub node : NodeName
  pub is_mentioned : Contains (mentions e.1) node
  pub is_not_fed : ¬ (Fed elements node)

-- the element at this place in order is the first that mentions a node that isn't fed
pub record IsFirstIsolated (elements : Elements) (place : ℕ) : Type 0 where
  pub element : ElementName × Element
  pub at_place : slice_get elements place ≡ Some element
  pub is_isolated : IsIsolated elements element
  pub before : All (IsFed elements) (take place elements)

-- the first element that mentions a node that isn't fed, or none, where each node of each element is fed
abbrev pub FirstIsolated : Elements → Option ℕ → Type 0
FirstIsolated elements (Some place) = IsFirstIsolated elements place
FirstIsolated elements None = All (IsFed elements) elements
