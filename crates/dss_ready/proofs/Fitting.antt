-- What an element that passes the tests of Solve is, class by class.
use Rattle.std.proofs.Common.{◌≡◌, ℕ, ℤ, pos, ◌+◌, ltb, eqb, Bool, true, false, not, ◌&&◌, ◌||◌, is_some, is_none, List, Option, Some, None, Result, Ok, Err, refl, sym, ap, subst, ◌∙◌, arith}
use Rattle.std.specs.Prelude.{length, ◌≤ℤ◌, ◌<ℤ◌, int_lt, int_le, IsTrue}
use Rattle.std.specs.Ordering.{int_eq}
use Rattle.std.proofs.lemmas.Bool.{or_parts, and_parts, ltb-false, eqb-false}
use Rattle.std.proofs.lemmas.Bool.Decides.{Decides-int_eq}
use lib.Signed.{lt_z_yes, le_z_yes}
use lib.Dec.{T}
use Rattle.dss_circuit.specs.dss_model.Ranges.{ones}
use Rattle.dss_circuit.specs.dss_model.declared.words.ControlQuantity.{ControlQuantity}
use Rattle.dss_circuit.specs.dss_model.declared.words.ControlQuantity.TheVariants as quantity
use Rattle.dss_circuit.specs.dss_model.declared.transformer.Winding.{Winding}
use Rattle.dss_circuit.specs.dss_model.declared.regcontrol.RegControl.{RegControl}
use Rattle.dss_circuit.specs.dss_model.declared.capcontrol.CapControl.{CapControl}
use Rattle.dss_circuit.specs.dss_model.declared.load.Load.{Load}
use Rattle.dss_circuit.specs.dss_model.LoadKinds.{is_zip, lacks_shares}
use Rattle.dss_circuit.specs.dss_model.declared.loadshape.Loadshape.{Loadshape}
use Rattle.dss_circuit.specs.dss_model.declared.transformer.Transformer.{Transformer}
use Rattle.dss_circuit.specs.dss_model.declared.element.Element.{Element}
use Rattle.dss_circuit.specs.dss_model.declared.element.Element.TheVariants as the
use Rattle.dss_circuit.specs.dss_model.declared.names.Class.TheVariants as class
use Rattle.dss_circuit.specs.dss_model.declared.names.ElementName.{ElementName}
use Rattle.dss_circuit.specs.Circuit.{Elements}
use Rattle.dss_layout.specs.declared.numbers.TerminalFault.{TerminalFault}
use Rattle.dss_layout.specs.declared.numbers.TerminalFault.TheVariants as terminal
use Rattle.dss_ready.specs.Counts.{is_count_fault, is_part_wrong, is_shape_short, lacks_line_or_bank, lacks_transformer}
use Rattle.dss_circuit.specs.Lookups.{element_given}
use Rattle.dss_ready.specs.Lookups.{measured_phases, phases_given}
use Rattle.dss_ready.specs.Mentions.{is_shape_followed, is_winding_controlled, is_second_control}
use Rattle.dss_ready.specs.Passed.{AreSettingsApart, AreValuesFit, IsCapControlFit, IsLoadFit, IsPhaseOf, IsRegControlFit, IsShapeFit, IsTransformerFit, IsWindingFit}
use Rattle.dss_ready.specs.Ranges.{are_settings_outside, is_capcontrol_outside, is_outside_by, is_phase_outside, is_regcontrol_outside, is_step_outside, is_tap_outside, is_transformer_outside, is_winding_outside}
use Rattle.dss_ready.specs.Support.{are_powers_unequal, differs_from, is_support_fault, lacks_impedance}

-- ---- tests

pub without_fault : (answer : Result Unit TerminalFault) → is_count_fault answer ≡ false
    → is_support_fault answer ≡ false → answer ≡ Ok tt
without_fault (Ok done) c s = refl
without_fault (Err terminal.WrongCount) c s = cc
without_fault (Err terminal.Unsupported) c s = cc

is_true : (b : Bool) → not b ≡ false → b ≡ true
is_true true h = refl
is_true false h = cc

-- one of two tests that aren't both passed isn't
and_off : (a b : Bool) → (a && b) ≡ false → b ≡ true → a ≡ false
and_off true b h on = absurd (cc)
and_off false b h on = refl

and_rest_off : (a b : Bool) → (a && b) ≡ false → a ≡ true → b ≡ false
and_rest_off true b h on = h
and_rest_off false b h on = absurd (cc)

below : (a b : ℤ) → not (int_lt a b) ≡ false → a <ℤ b
below a b h = lt_z_yes (subst T (sym (is_true (int_lt a b) h)) tt)

equal_ones : (a b : ℤ) → not (int_eq a b) ≡ false → a ≡ b
equal_ones a b h = (Decides-int_eq a b).0 (is_true (int_eq a b) h)

pub same_frequency : (hertz : ℕ) (o : Option ℤ) → differs_from hertz o ≡ false → (f : ℤ) → o ≡ Some f → f ≡ ones hertz
same_frequency hertz None h f is = cc
same_frequency hertz (Some g) h f is = let e : g ≡ f = cc in sym e ∙ equal_ones g (ones hertz) h

-- ---- loads

load_fit : (l : Load) → lacks_shares l ≡ false → IsLoadFit l
load_fit l h = record { shares = λ zip. is_true (is_some l.zipv) (and_rest_off (is_zip l.model) (is_none l.zipv) h zip) }

-- ---- windings

module _ (elements : Elements) (name : List ℕ) where
  winding_fit : (number : ℕ) (w : Winding) → is_winding_outside elements name number w ≡ false
      → IsWindingFit elements name number w
  winding_fit number w h =
      let parts = or_parts (is_step_outside w) (is_tap_outside w && is_winding_controlled elements name number) h in
      let taps : IsTrue (is_winding_controlled elements name number) → (ltb w.tap w.mintap ≡ false) × (ltb w.maxtap w.tap ≡ false) =
      λ on. or_parts (ltb w.tap w.mintap) (ltb w.maxtap w.tap) (and_off (is_tap_outside w) (is_winding_controlled elements name number) parts.1 on) in
      record {
        step = ltb-false w.maxtap (w.mintap + w.numtaps) parts.0;
        least = λ on. ltb-false w.tap w.mintap (taps on).0;
        most = λ on. ltb-false w.maxtap w.tap (taps on).1;
      }

  transformer_fit : (t : Transformer) → is_transformer_outside elements name t ≡ false
      → are_powers_unequal (the.Transformer t) ≡ false → IsTransformerFit elements name t
  transformer_fit t h powers =
      let parts = or_parts (is_winding_outside elements name 1 t.first) (is_winding_outside elements name 2 t.second) h in
      record { first = winding_fit 1 t.first parts.0; second = winding_fit 2 t.second parts.1; powers = equal_ones t.first.kva t.second.kva powers }

  shape_fit : (s : Loadshape) → (is_shape_short s && is_shape_followed elements name) ≡ false
      → IsShapeFit elements name s
  shape_fit s h =
      let parts : IsTrue (is_shape_followed elements name) → (eqb s.npts 0 ≡ false) × (ltb (length s.mult) s.npts ≡ false) =
      λ on. or_parts (eqb s.npts 0) (ltb (length s.mult) s.npts) (and_off (is_shape_short s) (is_shape_followed elements name) h on) in
      record {
        hours = λ on. (let some = eqb-false s.npts 0 (parts on).0 in omega arith);
        values = λ on. ltb-false (length s.mult) s.npts (parts on).1;
      }

-- ---- controls

-- an element that is there
record IsThere (found : Option Element) : Type 0 where
  element : Element
  is : found ≡ Some element

is_there : (found : Option Element) → is_none found ≡ false → IsThere found
is_there None h = cc
is_there (Some e) h = record { element = e; is = refl }

phase_fit : (e : Element) (phase : ℤ) → is_phase_outside phase (measured_phases e) ≡ false → IsPhaseOf e phase
phase_fit e phase h = record { least = λ n is. (parts n is).0; most = λ n is. (parts n is).1 }
  where
    parts : (n : ℕ) → measured_phases e ≡ Some n → (pos 1 ≤ℤ phase) × (phase ≤ℤ pos n)
    parts n is =
        let inside : not (int_le (pos 1) phase && int_le phase (pos n)) ≡ false = ap (is_phase_outside phase) (sym is) ∙ h in
        let both = and_parts (int_le (pos 1) phase) (int_le phase (pos n)) (is_true (int_le (pos 1) phase && int_le phase (pos n)) inside) in
        (le_z_yes (subst T (sym both.0) tt), le_z_yes (subst T (sym both.1) tt))

phase_of : (found : Option Element) (e : Element) (phase : ℤ) → found ≡ Some e
    → is_phase_outside phase (phases_given found) ≡ false → IsPhaseOf e phase
phase_of found e phase is h = phase_fit e phase (ap (λ o. is_phase_outside phase (phases_given o)) (sym is) ∙ h)

apart : (kind : ControlQuantity) (on off : ℤ) → are_settings_outside kind on off ≡ false → AreSettingsApart kind on off
apart quantity.Voltage on off h = below on off h
apart quantity.Current on off h = below off on h
apart quantity.Kvar on off h = below off on h

module _ (elements before : Elements) where
  regcontrol_fit : (c : RegControl) → is_regcontrol_outside elements c ≡ false → lacks_transformer elements c ≡ false
      → is_second_control before (the.RegControl c) ≡ false
      → IsRegControlFit elements before c
  regcontrol_fit c inside lacks second =
      let found = is_there (element_given elements class.Transformer c.transformer) lacks in
      record {
        transformer = found.element;
        there = found.is;
        phase =
            phase_of (element_given elements class.Transformer c.transformer) found.element c.ptphase found.is inside;
        first = second;
      }

  capcontrol_fit : (c : CapControl) → is_capcontrol_outside elements c ≡ false → lacks_line_or_bank elements c ≡ false
      → is_second_control before (the.CapControl c) ≡ false
      → IsCapControlFit elements before c
  capcontrol_fit c inside lacks second =
      let line = element_given elements class.Line c.element in
      let bank = element_given elements class.Capacitor c.capacitor in
      let missing = or_parts (is_none line) (is_none bank) lacks in
      let line_found = is_there line missing.0 in
      let bank_found = is_there bank missing.1 in
      let settings = or_parts (are_settings_outside c.kind c.onsetting c.offsetting)
      (is_phase_outside c.ptphase (phases_given line) || is_phase_outside c.ctphase (phases_given line)) inside in
      let phases = or_parts (is_phase_outside c.ptphase (phases_given line)) (is_phase_outside c.ctphase (phases_given line)) settings.1 in
      record {
        line = line_found.element;
        line_there = line_found.is;
        bank = bank_found.element;
        bank_there = bank_found.is;
        voltage_phase = phase_of line line_found.element c.ptphase line_found.is phases.0;
        current_phase = phase_of line line_found.element c.ctphase line_found.is phases.1;
        settings = apart c.kind c.onsetting c.offsetting settings.0;
        first = second;
      }

  -- the values of an element that passes
  pub values_fit : (name : ElementName) (e : Element) → is_outside_by elements name e ≡ false
      → is_part_wrong elements name e ≡ false → are_powers_unequal e ≡ false
      → is_second_control before e ≡ false → lacks_impedance e ≡ false → AreValuesFit elements before name e
  values_fit name (the.Vsource v) inside parts powers second impedance = record { below = inside }
  values_fit name (the.Line l) inside parts powers second impedance = record { matrices = parts; impedance = is_true (is_some l.constants.form) impedance }
  values_fit name (the.Transformer t) inside parts powers second impedance = transformer_fit elements name.name t inside powers
  values_fit name (the.RegControl c) inside parts powers second impedance = regcontrol_fit c inside parts second
  values_fit name (the.CapControl c) inside parts powers second impedance = capcontrol_fit c inside parts second
  values_fit name (the.Loadshape s) inside parts powers second impedance = shape_fit elements name.name s parts
  values_fit name (the.Linecode c) inside parts powers second impedance = tt
  values_fit name (the.Capacitor c) inside parts powers second impedance = tt
  values_fit name (the.Load l) inside parts powers second impedance = load_fit l parts
