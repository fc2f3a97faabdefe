-- The order in which the Lines and Transformers of a radial circuit are taken, from its source outwards, and the
-- elements for which a circuit isn't radial.
use Rattle.std.specs.Prelude.{ℕ, zero, suc, ◌==◌, nat_eq, Bool, false, not, ◌&&◌, ◌||◌, List, [], ◌∷◌, ◌++◌, length, slice_get, Option, Some, None, Result, Ok, Err, if◌then◌else◌}
use Rattle.std.specs.List.{list_any, list_all}
use Rattle.std.specs.Global.{Vec}
use Rattle.dss_layout.specs.fd_exact.First.{first_place}
use Rattle.dss_layout.specs.fd_exact.Answers as answers
use Rattle.dss_layout.specs.dss_model.declared.element.Element.{Element}
use Rattle.dss_layout.specs.dss_model.declared.element.Element.TheVariants as the
use Rattle.dss_layout.specs.dss_model.declared.names.ElementName.{ElementName}
use Rattle.dss_layout.specs.declared.nodes.NodeName.{NodeName}
use Rattle.dss_layout.specs.Nodes.{same_node}
use Rattle.dss_layout.specs.Terminals.{terminals_of}
use Rattle.dss_circuit.specs.Circuit.{Elements}
use Rattle.fd_ladder.specs.declared.fault.LadderFault.{LadderFault}
use Rattle.fd_ladder.specs.declared.fault.LadderFault.TheVariants.{NotRadial, NoMemory}
use Rattle.fd_ladder.specs.declared.section.Section.{Section}
use Rattle.fd_ladder.specs.Sections.{are_own_nodes, sections_from, source_nodes}

-- ---- what is reached

-- the nodes that are reached, and the numbers of the elements that are taken, in order
pub record Reach : Type 0 where
  pub nodes : List NodeName
  pub order : List ℕ

abbrev pub reach_at : List NodeName → List ℕ → Reach
reach_at nodes order = record { nodes = nodes; order = order }

abbrev pub is_reached : List NodeName → NodeName → Bool
is_reached nodes node = list_any (same_node node) nodes

-- a node is reached from now on
abbrev pub reach : List NodeName → NodeName → List NodeName
reach nodes node = if is_reached nodes node then nodes else nodes ++ node ∷ []

-- so is each of these
abbrev pub reach_all : List NodeName → List NodeName → List NodeName
reach_all nodes [] = nodes
reach_all nodes (node ∷ more) = reach_all (reach nodes node) more

-- ---- one Line or Transformer

-- all nodes of the one side are reached, and none of the other
abbrev pub leads : List NodeName → List NodeName → List NodeName → Bool
leads nodes inner outer = list_all (is_reached nodes) inner && not (list_any (is_reached nodes) outer)

abbrev pub can_be_taken : List NodeName → Section → Bool
can_be_taken nodes s = (s.from_first && leads nodes s.first s.second) || (s.from_second && leads nodes s.second s.first)

abbrev pub is_taken : List ℕ → ℕ → Bool
is_taken order number = list_any (nat_eq number) order

-- it isn't taken yet and can be
abbrev pub is_next : Reach → Section → Bool
is_next r s = not (is_taken r.order s.element) && can_be_taken r.nodes s

-- its nodes are reached from now on
abbrev pub with_taken : Reach → Section → Reach
with_taken r s = record { nodes = reach_all (reach_all r.nodes s.first) s.second; order = r.order ++ s.element ∷ [] }

-- it is looked at
abbrev pub taken : Section → Reach → Reach
taken s r = if is_next r s then with_taken r s else r

-- ---- all of them

-- all are looked at once, in order
abbrev pub pass : List Section → Reach → Reach
pass [] r = r
pass (s ∷ sections) r = pass sections (taken s r)

-- so many passes
abbrev pub passes : ℕ → List Section → Reach → Reach
passes zero sections r = r
passes (suc n) sections r = passes n sections (pass sections r)

-- what is reached in as many passes as there are Lines and Transformers; no later pass takes another
unfoldable pub reach_of : List Section → List NodeName → Reach
reach_of sections nodes = passes (length sections) sections (reach_at (reach_all [] nodes) [])

-- the numbers of the elements that are taken, in order
abbrev pub order_of : Elements → List ℕ
order_of elements = (reach_of (sections_from 0 elements) (source_nodes elements)).order

-- ---- the elements that offend

-- where this is the order, the element of this number offends: Vsource.source, with which a circuit begins, where one
-- of its phases enters ground or two of them one node; every other source; a Line or a Transformer that is never taken
abbrev pub offends : List ℕ → ℕ → Element → Bool
offends order number (the.Vsource v) = not ((number == 0) && are_own_nodes (terminals_of (the.Vsource v)).first)
offends order number (the.Line l) = not (is_taken order number)
offends order number (the.Transformer t) = not (is_taken order number)
offends order number other = false

abbrev pub offends_where : List ℕ → ℕ → Option (ElementName × Element) → Bool
offends_where order number None = false
offends_where order number (Some entry) = offends order number entry.1

abbrev pub first_offending_by : List ℕ → Elements → Option ℕ
first_offending_by order elements = first_place (λ number. offends_where order number (slice_get elements number)) (length elements)

-- the number of the first element that offends, if one does
abbrev pub first_offending : Elements → Option ℕ
first_offending elements = first_offending_by (order_of elements) elements

abbrev pub radial_unless : Option ℕ → List ℕ → Result (List ℕ) LadderFault
radial_unless None order = Ok order
radial_unless (Some number) order = Err (NotRadial number)

-- the order, or the first element that offends
abbrev pub radial_of : Elements → Result (List ℕ) LadderFault
radial_of elements = radial_unless (first_offending elements) (order_of elements)

-- the fault of an answer, unless memory ran out
abbrev pub fault_of : LadderFault → Option LadderFault
fault_of (NotRadial number) = Some (NotRadial number)
fault_of NoMemory = None

-- an answer is what is said
abbrev pub Answers : Result (Vec ℕ) LadderFault → Result (List ℕ) LadderFault → Type 0
Answers = answers.Gives fault_of (λ order. order.items)
