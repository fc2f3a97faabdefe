-- The order of the unknowns: nodes in order of first mention, then branch phases, then magnitudes of loads of model 5 or 8.
use Rattle.std.specs.Prelude.{ℕ, ◌+◌, ◌*◌, ◌==◌, nat_lt, Bool, ◌||◌, List, [], ◌∷◌, ◌++◌, length, map, take, Option, Some, None, Result, Ok, Err, if◌then◌else◌, slice_index}
use Rattle.std.specs.List.{flat_map, range_with_len}
use Rattle.dss_model.specs.declared.element.Element.{Element}
use Rattle.dss_model.specs.declared.element.Element.TheVariants as the
use Rattle.dss_model.specs.declared.names.ElementName.{ElementName}
use Rattle.dss_layout.specs.declared.nodes.NodeName.{NodeName}
use Rattle.dss_layout.specs.declared.nodes.PhaseName.{PhaseName}
use Rattle.dss_model.specs.fd_exact.First.{first_place}
use Rattle.dss_model.specs.fd_exact.Answers as answers
use Rattle.dss_model.specs.fd_arith.declared.terms.Ends.{Ends}
use Rattle.dss_model.specs.LoadKinds.{has_magnitude}
use Rattle.dss_layout.specs.declared.limits.LayoutFault.{LayoutFault}
use Rattle.dss_layout.specs.declared.limits.LayoutFault.TheVariants.{TooMany, NoMemory}
use Rattle.dss_layout.specs.Limits.{most_complex, most_magnitudes}
use Rattle.dss_layout.specs.Nodes.{new_nodes, node_at}
use Rattle.dss_layout.specs.Terminals.{mentions, terminals_of}

-- elements in order of definition, by name
abbrev pub Elements : Type 0
Elements = List (ElementName × Element)

-- the phases of which each has a branch current
abbrev pub branch_phases : Element → ℕ
branch_phases (the.Vsource v) = v.phases
branch_phases (the.Line l) = l.phases
branch_phases (the.Transformer t) = t.phases
branch_phases other = 0

-- the phases of which each has a voltage magnitude of its own: those of a load with a part of constant current
abbrev pub magnitude_phases : Element → ℕ
magnitude_phases (the.Load l) = if has_magnitude l.model then l.phases else 0
magnitude_phases other = 0

-- all nodes, in order of first mention
abbrev pub nodes_of : Elements → List NodeName
nodes_of elements = new_nodes [] (flat_map (λ e. mentions e.1) elements)

-- the phases of an element, from 1
abbrev pub phase_names : ElementName → ℕ → List PhaseName
phase_names name phases = map (λ k. record { element = name; phase = k }) (range_with_len 1 phases)

-- for each element, the sum of f over those before it
abbrev pub sums_before : (Element → ℕ) → ℕ → Elements → List ℕ
sums_before f sum [] = []
sums_before f sum (e ∷ rest) = sum ∷ sums_before f (sum + f e.1) rest

pub record LayoutView : Type 0 where
  -- the nodes, in order of first mention
  pub nodes : List NodeName
  -- the branch phases, in order
  pub branches : List PhaseName
  -- the phases with a magnitude, in order
  pub magnitudes : List PhaseName
  -- for each element, the number of branch phases before its own
  pub branches_before : List ℕ
  -- for each element, the number of magnitudes before its own
  pub magnitudes_before : List ℕ

abbrev pub layout_of : Elements → LayoutView
layout_of elements = record {
  nodes = nodes_of elements;
  branches = flat_map (λ e. phase_names e.0 (branch_phases e.1)) elements;
  magnitudes = flat_map (λ e. phase_names e.0 (magnitude_phases e.1)) elements;
  branches_before = sums_before branch_phases 0 elements;
  magnitudes_before = sums_before magnitude_phases 0 elements;
}

-- the layout with one more element
abbrev pub added : LayoutView → ElementName → Element → LayoutView
added layout name element = record {
  nodes = layout.nodes ++ new_nodes layout.nodes (mentions element);
  branches = layout.branches ++ phase_names name (branch_phases element);
  magnitudes = layout.magnitudes ++ phase_names name (magnitude_phases element);
  branches_before = layout.branches_before ++ length layout.branches ∷ [];
  magnitudes_before = layout.magnitudes_before ++ length layout.magnitudes ∷ [];
}

-- the number of complex unknowns: nodes and branch phases
abbrev pub complex_count : LayoutView → ℕ
complex_count layout = length layout.nodes + length layout.branches

-- there are more nodes and branch phases, or more magnitudes, than may be
abbrev pub passes_limit : LayoutView → Bool
passes_limit layout = nat_lt most_complex (complex_count layout) || nat_lt most_magnitudes (length layout.magnitudes)

-- a limit is passed by the elements up to the one at this place in order
abbrev pub is_past_limit_at : Elements → ℕ → Bool
is_past_limit_at elements place = passes_limit (layout_of (take (place + 1) elements))

-- the place in order of the first element with which a limit is passed
abbrev pub first_too_many : Elements → Option ℕ
first_too_many elements = first_place (is_past_limit_at elements) (length elements)

abbrev pub laid_out_unless : Option ℕ → Elements → Result LayoutView LayoutFault
laid_out_unless None elements = Ok (layout_of elements)
laid_out_unless (Some k) elements = Err (TooMany k)

-- the layout, or the first element that passes a limit
abbrev pub laid_out : Elements → Result LayoutView LayoutFault
laid_out elements = laid_out_unless (first_too_many elements) elements

-- the fault of an answer, unless memory ran out
abbrev pub fault_of : LayoutFault → Option LayoutFault
fault_of (TooMany k) = Some (TooMany k)
fault_of NoMemory = None

-- an answer is what is said
abbrev pub LaysOut : Result LayoutView LayoutFault → Result LayoutView LayoutFault → Type 0
LaysOut = answers.Gives fault_of (λ layout. layout)

-- the number of real unknowns
abbrev pub size_of : LayoutView → ℕ
size_of layout = 2 * complex_count layout + length layout.magnitudes

-- the complex unknown of the first branch phase of the element at this place in order; 0 for an element without
abbrev pub first_branch : LayoutView → ℕ → Element → ℕ
first_branch layout place element = if branch_phases element == 0 then 0 else length layout.nodes + slice_index layout.branches_before place

-- the place of the first magnitude of the element at this place in order
abbrev pub first_magnitude : LayoutView → ℕ → ℕ
first_magnitude layout place = 2 * complex_count layout + slice_index layout.magnitudes_before place

-- the nodes of an element's phases at its buses, and its first branch
abbrev pub ends_of : LayoutView → ℕ → Element → Ends
ends_of layout place element = record {
  first = map (node_at layout.nodes) (terminals_of element).first;
  second = map (node_at layout.nodes) (terminals_of element).second;
  branch = first_branch layout place element;
}
