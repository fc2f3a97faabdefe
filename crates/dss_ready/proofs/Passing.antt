-- What each test of Solve says of an element, where no element is to blame.
use Rattle.std.proofs.Common.{◌≡◌, ℕ, zero, suc, Bool, true, false, ◌||◌, [], ◌∷◌, ◌++◌, take, slice_get, Option, Some, None, Ok, refl, sym, subst, append_assoc}
use Rattle.std.proofs.lemmas.Bool.{or_parts}
use Rattle.std.proofs.lemmas.List.{append-nil}
use Rattle.dss_circuit.specs.dss_model.declared.fault.ModelFault.{ModelFault}
use Rattle.dss_circuit.specs.dss_model.declared.element.Element.{Element}
use Rattle.dss_circuit.specs.dss_model.declared.names.ElementName.{ElementName}
use Rattle.dss_circuit.specs.dss_model.Element.{place_of}
use Rattle.dss_circuit.specs.Circuit.{Elements}
use Rattle.dss_layout.specs.Terminals.{terminal_numbers, tested}
use Rattle.dss_ready.specs.Counts.{is_count_fault, is_part_wrong}
use Rattle.dss_ready.specs.Mentions.{is_second_control}
use Rattle.dss_ready.specs.Ranges.{is_outside_by}
use Rattle.dss_ready.specs.Support.{is_support_fault, are_powers_unequal, differs_from, frequency_of, lacks_impedance}
use Rattle.dss_ready.specs.Walk.{blamed_or, first_cause, cause_of, first_blame}

-- no cause applies
record AreFalse (outside count unsupported second impedance : Bool) : Type 0 where
  outside_is : outside ≡ false
  count_is : count ≡ false
  unsupported_is : unsupported ≡ false
  second_is : second ≡ false
  impedance_is : impedance ≡ false

none_applies : (outside count unsupported second impedance : Bool)
    → first_cause outside count unsupported second impedance ≡ None
    → AreFalse outside count unsupported second impedance
none_applies true c u s i h = cc
none_applies false true u s i h = cc
none_applies false false true s i h = cc
none_applies false false false true i h = cc
none_applies false false false false true h = cc
none_applies false false false false false h = record { outside_is = refl; count_is = refl; unsupported_is = refl; second_is = refl; impedance_is = refl }

module _ (hertz : ℕ) (elements : Elements) where
  -- no test of the element, of which these stand before it, gives a cause
  pub record Passes (before : Elements) (e : ElementName × Element) : Type 0 where
    pub inside : is_outside_by elements e.0 e.1 ≡ false
    pub count : is_count_fault (tested (terminal_numbers e.1)) ≡ false
    pub parts : is_part_wrong elements e.0 e.1 ≡ false
    pub support : is_support_fault (tested (terminal_numbers e.1)) ≡ false
    pub powers : are_powers_unequal e.1 ≡ false
    pub frequency : differs_from hertz (frequency_of e.1) ≡ false
    pub second : is_second_control before e.1 ≡ false
    pub impedance : lacks_impedance e.1 ≡ false

  passes_without_cause : (before : Elements) (e : ElementName × Element) → cause_of hertz elements before e ≡ None
      → Passes before e
  passes_without_cause before e h =
      let counts = is_count_fault (tested (terminal_numbers e.1)) in
      let supports = is_support_fault (tested (terminal_numbers e.1)) in
      let none = none_applies (is_outside_by elements e.0 e.1)
      (counts || is_part_wrong elements e.0 e.1)
      (supports || (are_powers_unequal e.1 || differs_from hertz (frequency_of e.1)))
      (is_second_control before e.1) (lacks_impedance e.1) h in
      let wrong = or_parts counts (is_part_wrong elements e.0 e.1) none.count_is in
      let unsupported = or_parts supports (are_powers_unequal e.1 || differs_from hertz (frequency_of e.1)) none.unsupported_is in
      let differs = or_parts (are_powers_unequal e.1) (differs_from hertz (frequency_of e.1)) unsupported.1 in
      record {
        inside = none.outside_is;
        count = wrong.0;
        parts = wrong.1;
        support = unsupported.0;
        powers = differs.0;
        frequency = differs.1;
        second = none.second_is;
        impedance = none.impedance_is;
      }

  -- where none is to blame, each element passes
  pub each_passes : (before rest : Elements) → first_blame hertz elements before rest ≡ Ok tt
      → (k : ℕ) (entry : ElementName × Element) → slice_get rest k ≡ Some entry → Passes (before ++ take k rest) entry
  each_passes before [] h k entry at = cc
  each_passes before (e ∷ rest) h k entry at =
      by (cause_of hertz elements before e) refl h (λ none later. place k at none (λ j there. each_passes (before ++ e ∷ []) rest later j entry there))
    where
      place : (j : ℕ) → slice_get (e ∷ rest) j ≡ Some entry → cause_of hertz elements before e ≡ None
          → ((i : ℕ) → slice_get rest i ≡ Some entry → Passes ((before ++ e ∷ []) ++ take i rest) entry)
          → Passes (before ++ take j (e ∷ rest)) entry
      place zero here none later =
          let same : e ≡ entry = cc in
          subst (λ b. Passes b entry) (sym (append-nil before)) (subst (Passes before) same (passes_without_cause before e none))
      place (suc j) there none later = subst (λ b. Passes b entry) (append_assoc before (e ∷ []) (take j rest)) (later j there)

      by : (cause : Option ModelFault) → cause_of hertz elements before e ≡ cause
          → blamed_or cause (place_of e.1) (first_blame hertz elements (before ++ e ∷ []) rest) ≡ Ok tt
          → (cause_of hertz elements before e ≡ None → first_blame hertz elements (before ++ e ∷ []) rest ≡ Ok tt → Passes (before ++ take k (e ∷ rest)) entry)
          → Passes (before ++ take k (e ∷ rest)) entry
      by None is g go = go is g
      by (Some cause) is g go = cc
