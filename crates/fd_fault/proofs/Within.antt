-- The circuit of a short circuit is within the limits of circuits.
use Rattle.std.proofs.Common.{◌≡◌, ◌≢◌, ◌∙◌, ◌⊎◌, inr, ℕ, ◌+◌, ◌<◌, ◌≤◌, ◌^◌, true, false, List, [], ◌∷◌, ◌++◌, length, Option, Some, None, All, refl, sym, ap, subst, slice_index_or, rules, arith}
use Rattle.std.specs.Map.{lookup}
use Rattle.std.proofs.lemmas.Bool.{false≢true}
use Rattle.std.proofs.lemmas.List.{length-append}
use Rattle.std.proofs.lemmas.List.Elements.{All-cons, All-nil}
use Rattle.dss_ready.specs.dss_model.declared.element.Element.{Element}
use Rattle.dss_ready.specs.dss_model.declared.element.Element.TheVariants as the
use Rattle.dss_ready.specs.dss_model.declared.names.Class.{Class}
use Rattle.dss_ready.specs.dss_model.declared.names.Class.TheVariants as class
use Rattle.dss_ready.specs.dss_model.declared.names.ElementName.{ElementName}
use Rattle.dss_ready.specs.dss_model.InRange.{ElementInRange, LineInRange}
use Rattle.dss_ready.specs.dss_model.SameElement.{same_element}
use Rattle.dss_ready.specs.dss_circuit.Circuit.{CircuitView, Elements, has_circuit}
use Rattle.dss_ready.specs.dss_circuit.InRange.{AllInRange, IsWithinLimits}
use Rattle.dss_ready.specs.dss_circuit.Limits.{most_elements}
use Rattle.dss_ready.specs.dss_circuit.WellFormed.{AreWellFormed, IsEntry}
use Rattle.dss_ready.specs.dss_circuit.Without.{NamesNone, OthersNameNone, without}
use Rattle.dss_ready.proofs.CallerLemmas.dss_circuit.{in_range_left, well_formed_kept, well_formed_left}
use Rattle.fd_fault.specs.declared.kind.Kind.{Kind}
use Rattle.fd_fault.specs.declared.kind.Kind.TheVariants as kind
use Rattle.fd_fault.specs.FaultCircuit.{fault_elements, fault_entry, fault_line, first_missing, stripped}
use Rattle.fd_fault.specs.ShortNames.{IsShortName, line_name}
use Rattle.fd_fault.proofs.Dropping.{absent_still, begun_still, begun_where, chained, given_or_not, no_bank_named, put_last, shorter, without_all, without_controls}
use Rattle.fd_fault.proofs.Naming.{short_key}
use Rattle.fd_fault.proofs.Standing.{joined}

-- ---- nothing names a load or a control

names_none : (d : Class) → d ≢ class.Linecode → d ≢ class.Loadshape → d ≢ class.Transformer → d ≢ class.Line → d ≢ class.Capacitor
    → (x : Element) → NamesNone d x
names_none d a b c e f (the.Line line) = given_or_not line.linecode a
names_none d a b c e f (the.Load load) = given_or_not load.daily b
names_none d a b c e f (the.RegControl control) = given_or_not control.transformer c
names_none d a b c e f (the.CapControl control) = (given_or_not control.element e, given_or_not control.capacitor f)
names_none d a b c e f (the.Vsource source) = tt
names_none d a b c e f (the.Linecode code) = tt
names_none d a b c e f (the.Transformer xfmr) = tt
names_none d a b c e f (the.Capacitor bank) = tt
names_none d a b c e f (the.Loadshape shape) = tt

none_named : (d : Class) → ((x : Element) → NamesNone d x) → (es : Elements) → OthersNameNone d es
none_named d none es = λ k e within. inr (none (slice_index_or es k e).1)

no_cap_control : (x : Element) → NamesNone class.CapControl x
no_cap_control = names_none class.CapControl (λ e. cc e) (λ e. cc e) (λ e. cc e) (λ e. cc e) (λ e. cc e)

no_reg_control : (x : Element) → NamesNone class.RegControl x
no_reg_control = names_none class.RegControl (λ e. cc e) (λ e. cc e) (λ e. cc e) (λ e. cc e) (λ e. cc e)

no_load : (x : Element) → NamesNone class.Load x
no_load = names_none class.Load (λ e. cc e) (λ e. cc e) (λ e. cc e) (λ e. cc e) (λ e. cc e)

-- ---- what stays

module _ (es : Elements) where
  abbrev banks_left : Elements
  banks_left = without_controls es

  abbrev loads_left : Elements
  loads_left = without class.Capacitor (without_controls es)

  stripped_formed : AreWellFormed es → AreWellFormed (stripped es)
  stripped_formed h =
      let first = well_formed_left class.CapControl (λ e. cc e) es (none_named class.CapControl no_cap_control es) h in
      let second = well_formed_left class.RegControl (λ e. cc e) (without class.CapControl es)
      (none_named class.RegControl no_reg_control (without class.CapControl es)) first in
      let third = well_formed_left class.Capacitor (λ e. cc e) banks_left (no_bank_named es h.entries) second in
      let fourth = well_formed_left class.Load (λ e. cc e) loads_left (none_named class.Load no_load loads_left) third in
      subst AreWellFormed (chained es h.entries) fourth

  stripped_in_range : All IsEntry es → AllInRange es → AllInRange (stripped es)
  stripped_in_range entries h =
      subst AllInRange (chained es entries)
      (in_range_left class.Load loads_left (in_range_left class.Capacitor banks_left
      (in_range_left class.RegControl (without class.CapControl es) (in_range_left class.CapControl es h))))

-- ---- the line

line_in_range : (bus : List ℕ) (kind : Kind) → LineInRange (fault_line bus kind)
line_in_range bus kind.Lll = search rules
line_in_range bus kind.Lg1 = search rules
line_in_range bus kind.Lg2 = search rules
line_in_range bus kind.Lg3 = search rules

-- ---- the circuit

module _ (c : CircuitView) (bus : List ℕ) (kind : Kind) (k : ℕ) (limits : IsWithinLimits c.elements c.options)
    (there : first_missing c.elements bus kind ≡ None) (name : IsShortName c.elements k) where
  abbrev last : Elements
  last = fault_entry bus kind k ∷ []

  begun : has_circuit (stripped c.elements) ≡ true
  begun =
      begun_still c.elements limits.well_formed.entries limits.well_formed.source (begun_where c.elements bus kind there)

  put_there : AreWellFormed (stripped c.elements ++ last)
  put_there =
      subst AreWellFormed
      (put_last (stripped c.elements) (line_name k) (the.Line (fault_line bus kind)) (absent_still (line_name k) c.elements name.free))
      (well_formed_kept (line_name k) (the.Line (fault_line bus kind)) (stripped c.elements)
      (short_key k (let few = name.few in omega (arith, few))) refl (λ f. absurd (false≢true (sym f ∙ begun))) tt
      (stripped_formed c.elements limits.well_formed))

  in_range : AllInRange (stripped c.elements ++ last)
  in_range =
      let P : ElementName × Element → Type 0 = λ e. ElementInRange e.1 in
      joined P (stripped c.elements) last (stripped_in_range c.elements limits.well_formed.entries limits.elements_in_range)
      (All-cons P (fault_entry bus kind k) [] (line_in_range bus kind) (All-nil P))

  pub fault_within : length c.elements < most_elements → IsWithinLimits (fault_elements c.elements bus kind k) c.options
  fault_within room = record {
    well_formed = put_there;
    few =
        let fewer = shorter c.elements in
        let both : length (stripped c.elements ++ last) ≡ length (stripped c.elements) + 1 = length-append (stripped c.elements) last in
        omega (arith, room, fewer, both);
    elements_in_range = in_range;
    options_in_range = limits.options_in_range;
  }
