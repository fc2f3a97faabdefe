-- The nodes of a line's bus have branch phases among the unknowns.
use Rattle.std.proofs.Common.{◌≡◌, ℕ, ◌+◌, ◌*◌, ◌≤◌, ◌<◌, ◌==◌, ◌&&◌, nat_le, Bool, true, false, List, [], ◌∷◌, length}
use Rattle.std.proofs.Common.{Option, Some, Result, Ok, Err, if◌then◌else◌, slice_get, slice_index, slice_index_or}
use Rattle.std.proofs.Common.{refl, subst, arith}
use Rattle.std.proofs.lemmas.Bool.{eqb-true}
use Rattle.std.proofs.lemmas.Option.{get_or_from_slice_get, slice_get_within}
use Rattle.fd_fault.specs.dss_model.declared.bus.Bus.{Bus}
use Rattle.fd_fault.specs.dss_model.declared.element.Element.{Element}
use Rattle.fd_fault.specs.dss_model.declared.element.Element.TheVariants as the
use Rattle.fd_fault.specs.dss_model.declared.line.Line.{Line}
use Rattle.fd_fault.specs.dss_model.declared.names.ElementName.{ElementName}
use Rattle.fd_fault.specs.dss_circuit.Circuit.{CircuitView}
use Rattle.fd_fault.specs.dss_layout.Layout.{branch_phases, first_branch, layout_of, size_of}
use Rattle.fd_fault.specs.dss_layout.Terminals.{at_two_buses, bus_numbers, line_numbers, terminal_numbers, tested}
use Rattle.fd_fault.specs.dss_layout.declared.numbers.TerminalFault.{TerminalFault}
use Rattle.fd_fault.specs.dss_layout.declared.numbers.TerminalFault.TheVariants.{WrongCount}
use Rattle.fd_fault.specs.dss_ready.Ready.{HasPassed}
use Rattle.fd_fault.proofs.CallerLemmas.dss_ready.{passed}
use Rattle.fd_fault.proofs.CallerLemmas.dss_layout.{sum_with_own}
use Rattle.fd_shorting.specs.Fitting.{AreBusesFit}

-- ---- as many nodes as phases

module _ (phases : ℕ) (second : Result (List ℕ) TerminalFault) where
  count_by : (nodes : List ℕ) → tested (at_two_buses (line_numbers phases nodes) second) ≡ Ok tt → length nodes ≤ phases
  count_by [] h = omega arith
  count_by (n ∷ ns) h = one (length (n ∷ ns) == phases) refl (nat_le phases 3) h
    where
      one : (b : Bool) → (length (n ∷ ns) == phases) ≡ b → (c : Bool)
          → tested (at_two_buses (if b && c then Ok (n ∷ ns) else Err WrongCount) second) ≡ Ok tt
          → length (n ∷ ns) ≤ phases
      one true e c h = let same : length (n ∷ ns) ≡ phases = eqb-true (length (n ∷ ns)) phases e in omega (arith, same)
      one false e c h = absurd (cc h)

nodes_of_line : (l : Line) (bus : Bus) → l.bus1 ≡ Some bus → tested (terminal_numbers (the.Line l)) ≡ Ok tt
    → length bus.nodes ≤ l.phases
nodes_of_line l bus is h =
    let second = bus_numbers (line_numbers l.phases) l.bus2 in
    count_by l.phases second bus.nodes
    (subst (λ (o : Option Bus). tested (at_two_buses (bus_numbers (line_numbers l.phases) o) second) ≡ Ok tt) is h)

-- ---- among the unknowns

module _ (c : CircuitView) (place : ℕ) (name : ElementName) (l : Line) (n : ℕ) where
  line_fits : slice_get c.elements place ≡ Some (name, the.Line l) → n ≤ l.phases
      → 2 * (first_branch (layout_of c.elements) place (the.Line l) + n) ≤ size_of (layout_of c.elements)
  line_fits here few = by (l.phases == 0) refl
    where
      within : place < length c.elements
      within = slice_get_within c.elements place (name, the.Line l) here

      is : slice_index_or c.elements place (name, the.Line l) ≡ (name, the.Line l)
      is = get_or_from_slice_get c.elements place (name, the.Line l) (name, the.Line l) here

      own : slice_index (layout_of c.elements).branches_before place + l.phases ≤ length (layout_of c.elements).branches
      own =
          let all = sum_with_own branch_phases 0 c.elements place (name, the.Line l) within in
          let here : slice_index (layout_of c.elements).branches_before place + l.phases ≤ 0 + length
          (layout_of c.elements).branches =
          subst
          (λ (e : ElementName × Element). slice_index (layout_of c.elements).branches_before place + branch_phases e.1
          ≤ 0 + length (layout_of c.elements).branches) is all in
          omega (arith, here)

      by : (b : Bool) → (l.phases == 0) ≡ b
          → 2 *
          ((if b then 0 else length (layout_of c.elements).nodes + slice_index
          (layout_of c.elements).branches_before place) + n)
          ≤ size_of (layout_of c.elements)
      by true e = let none : l.phases ≡ 0 = eqb-true l.phases 0 e in omega (arith, none, few)
      by false e = omega (arith, own, few)

pub buses_fit : (c : CircuitView) → HasPassed c → (place : ℕ) (name : ElementName) (element : Element)
    → slice_get c.elements place ≡ Some (name, element) → AreBusesFit c place element
buses_fit c ready place name (the.Line l) here bus is =
    line_fits c place name l (length bus.nodes) here
    (nodes_of_line l bus is ((passed c ready).each place (name, the.Line l) here).terminals)
buses_fit c ready place name (the.Vsource x) here bus is = absurd (cc is)
buses_fit c ready place name (the.Linecode x) here bus is = absurd (cc is)
buses_fit c ready place name (the.Transformer x) here bus is = absurd (cc is)
buses_fit c ready place name (the.Capacitor x) here bus is = absurd (cc is)
buses_fit c ready place name (the.Load x) here bus is = absurd (cc is)
buses_fit c ready place name (the.RegControl x) here bus is = absurd (cc is)
buses_fit c ready place name (the.CapControl x) here bus is = absurd (cc is)
buses_fit c ready place name (the.Loadshape x) here bus is = absurd (cc is)
