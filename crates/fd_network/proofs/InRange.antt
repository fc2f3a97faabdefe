-- A circuit that passed the tests of Solve has a network at all settings at which nothing is out of range.
use Rattle.std.proofs.Common.{◌≡◌, ◌∙◌, ℕ, zero, suc, ◌+◌, ◌*◌, ◌<◌, Bool, true, false, not, cond, List, [], ◌∷◌, length, Option, Some, None, option_map, ap, refl, sym, subst, arith, IsTrue}
use Rattle.std.specs.List.{All, AllPass}
use Rattle.std.specs.Option.{option_and_then, option_or}
use Rattle.std.proofs.lemmas.List.Elements.{All-cons, All-head, All-nil, All-tail, All-take}
use Rattle.std.proofs.lemmas.Option.{slice_get-get_or}
use Rattle.dss_ready.specs.dss_model.declared.element.Element.{Element}
use Rattle.dss_ready.specs.dss_model.declared.fault.ModelFault.TheVariants as cause
use Rattle.dss_ready.specs.dss_model.declared.names.ElementName.{ElementName}
use Rattle.dss_ready.specs.dss_circuit.Circuit.{CircuitView}
use Rattle.dss_ready.specs.dss_circuit.InRange.{IsWithinLimits}
use Rattle.dss_ready.specs.dss_layout.Layout.{Elements, LayoutView, branch_phases, complex_count, layout_of, size_of}
use Rattle.dss_ready.proofs.CallerLemmas.dss_layout.{few_complex, few_magnitudes}
use Rattle.dss_ready.specs.Ready.{HasPassed, blame_at, blame_on}
use Rattle.fd_equations.specs.fd_exact.Sums.{list_n}
use Rattle.fd_devices.specs.fd_system.Contributions.{IsDivided, IsWithin}
use Rattle.fd_devices.specs.fd_system.System.{StampView}
use Rattle.fd_devices.specs.fd_xfmr.Leakage.{AreTaps}
use Rattle.fd_equations.specs.fd_pattern.Conditions.{IsKnown, IsServed}
use Rattle.fd_devices.specs.Building.{AreInRange, DeviceFits, IsBounded, IsInside, IsModest, device_fits, has_small_sums}
use Rattle.fd_devices.specs.Devices.{Device, DeviceLaw, IsGood, device_stamp, stamp_of_all}
use Rattle.fd_devices.specs.Scripted.{device_of, devices_from, devices_of}
use Rattle.fd_devices.specs.Settings.{AreSettings, Settings, after, own, power_count}
use Rattle.fd_devices.proofs.CallerLemmas.{bounded_more, devices_length, settled_at}
use Rattle.fd_network.specs.Collecting.{AreTakenFrom}
use Rattle.fd_network.specs.Faults.{first_out_of_range, first_without, range_blame}
use Rattle.fd_network.specs.Laws.{IsOfCircuit}
use Rattle.fd_network.proofs.Apart.{apart, magnitudes_follow}
use Rattle.fd_network.proofs.Assembling.{is_network}
use Rattle.fd_network.proofs.Building.{are_taken, out_of_range_within}
use Rattle.fd_network.proofs.ReadyElements.{few_branches, ready}
use Rattle.fd_network.proofs.Sums.{sums_small}
use Rattle.fd_network.proofs.Taking.{first_taken, own_settings, rest_taken}

-- ---- nothing is out of range where no element is to blame

all_with : (holds : Device → Bool) (ds : List Device) → first_without holds ds ≡ None → AllPass holds ds
all_with holds [] h = All-nil (λ d. IsTrue (holds d))
all_with holds (d ∷ ds) h = by (holds d) refl (first_without holds ds) h (all_with holds ds)
  where
    by : (b : Bool) → holds d ≡ b → (o : Option ℕ) → cond (not b) (Some zero) (option_map suc o) ≡ None
        → (o ≡ None → AllPass holds ds) → AllPass holds (d ∷ ds)
    by true t None e rest = All-cons (λ d. IsTrue (holds d)) d ds t (rest refl)
    by true t (Some k) e rest = absurd (let no : ⊥ = cc in no)
    by false t o e rest = absurd (let no : ⊥ = cc in no)

neither : (p q : Option ℕ) → option_or p q ≡ None → (p ≡ None) × (q ≡ None)
neither None q h = (refl, h)
neither (Some k) q h = absurd (let no : ⊥ = cc in no)

-- an element that is there can be blamed
blamed_at : (es : Elements) (place : ℕ) → place < length es → blame_at cause.Range es place ≡ None → ⊥
blamed_at [] place low h = absurd (omega (arith, low))
blamed_at (e ∷ es) place low h =
    let there = slice_get-get_or (e ∷ es) place e low in
    let blamed = sym (ap (option_map (blame_on cause.Range)) there) ∙ h in
    let no : ⊥ = cc in
    no

none_out : (es : Elements) (ds : List Device) → length ds ≡ length es → range_blame es ds ≡ None → first_out_of_range ds ≡ None
none_out es ds count h = by (first_out_of_range ds) refl h
  where
    by : (o : Option ℕ) → first_out_of_range ds ≡ o → option_and_then (blame_at cause.Range es) o ≡ None
        → first_out_of_range ds ≡ None
    by None e h = e
    by (Some place) e h = absurd (blamed_at es place (omega (arith, out_of_range_within ds place e, count)) h)

are_in_range : (ds : List Device) → first_out_of_range ds ≡ None → AreInRange ds
are_in_range ds h =
    let none = neither (first_without device_fits ds) (first_without (has_small_sums (stamp_of_all ds).terms) ds) h in
    record {
      each = all_with device_fits ds none.0;
      sums = sums_small ds (all_with (has_small_sums (stamp_of_all ds).terms) ds none.1);
    }

-- ---- what the devices add

module _ (layout : LayoutView) (hertz : ℕ) where
  abbrev AreBounded : Elements → StampView → Type 0
  AreBounded es a =
      IsBounded (length layout.nodes) (complex_count layout) (size_of layout) (length es)
      (list_n (λ e. branch_phases e.1) es) a

  none_bounded : AreBounded [] (stamp_of_all [])
  none_bounded = record {
    terms = record {
      inside = All-nil (IsInside (complex_count layout));
      divided = All-nil IsDivided;
      within = All-nil IsWithin;
      few = omega arith;
    };
    constants = All-nil (IsKnown (2 * complex_count layout));
    few_constants = omega arith;
    loads = All-nil (IsServed (length layout.nodes) (complex_count layout) (size_of layout));
    few_loads = omega arith;
    draw = omega arith;
  }

  -- devices with good data, and what they add together
  all_settled : (place : ℕ) (es : Elements) (s : Settings) → AreTakenFrom layout hertz place es s
      → All DeviceFits (devices_from layout hertz place es s)
      → All IsGood (devices_from layout hertz place es s) × AreBounded es (stamp_of_all (devices_from layout hertz place es s))
  all_settled place [] s taken fits = (All-nil IsGood, none_bounded)
  all_settled place (e ∷ es) s taken fits =
      let first = first_taken layout hertz place e es s taken in
      let d = device_of layout hertz place e.1 (own e.1 s) in
      let ds = devices_from layout hertz (place + 1) es (after e.1 s) in
      let settled = settled_at layout hertz place (own e.1 s) e.1 first.known first.ready (own_settings layout hertz place e.1 s first)
      (All-take IsModest (power_count e.1) s.powers first.modest) (All-head DeviceFits d ds fits) in
      let rest = all_settled (place + 1) es (after e.1 s) (rest_taken layout hertz place e es s taken)
      (All-tail DeviceFits d ds fits) in
      let count : 1 + length es ≡ length (e ∷ es) = omega arith in
      let branches = list_n (λ (x : ElementName × Element). branch_phases x.1) (e ∷ es) in
      let bounded = bounded_more (length layout.nodes) (complex_count layout) (size_of layout) 1 (length es)
      (branch_phases e.1) (list_n (λ x. branch_phases x.1) es) (device_stamp d) (stamp_of_all ds) settled.bounded rest.1 in (
        All-cons IsGood d ds settled.good rest.0,
        subst (λ n. IsBounded (length layout.nodes) (complex_count layout) (size_of layout) n branches (stamp_of_all (d ∷ ds)))
            count bounded,
      )

-- ---- the network

pub is_of_circuit : DeviceLaw → (c : CircuitView) (s : Settings) → HasPassed c → IsWithinLimits c.elements c.options
    → AreSettings c.elements s → All AreTaps s.taps → All IsModest s.powers
    → range_blame c.elements (devices_of c s) ≡ None → IsOfCircuit c s
is_of_circuit law c s passed limits settings taps modest none =
    let es = c.elements in
    let layout = layout_of es in
    let hertz = c.options.defaultbasefrequency in
    let ds = devices_of c s in
    let taken = are_taken hertz es s limits.options_in_range.defaultbasefrequency passed.not_many
    (ready c passed limits.elements_in_range) settings taps modest in
    let range = are_in_range ds (none_out es ds (devices_length layout hertz 0 es s) none) in
    let settled = all_settled layout hertz 0 es s taken range.each in
    record {
      network = is_network layout es ds (stamp_of_all ds)
          (record { stamp = refl; fits = range.each; good = settled.0; bounded = settled.1 }) range.sums
          (apart layout hertz (2 * complex_count layout) es s (magnitudes_follow es)) limits.few (few_branches es passed.not_many)
          (few_complex es passed.not_many) (few_magnitudes es passed.not_many);
      agrees = law ds settled.0;
    }
