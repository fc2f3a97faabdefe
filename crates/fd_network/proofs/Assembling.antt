-- What elements add is what a network asks for.
use Rattle.std.proofs.Common.{◌+◌, ◌*◌, ◌<◌, ◌≤◌, ◌^◌, List, [], ◌∷◌, length, None, Some, arith, ap, refl, ◌≡◌, ◌∙◌, ℕ}
use Rattle.std.specs.List.{All}
use Rattle.std.specs.Option.{option_or}
use Rattle.std.proofs.lemmas.List.Elements.{All-nil, All-cons, All-head, All-tail}
use Rattle.dss_ready.specs.dss_circuit.Limits.{most_elements}
use Rattle.dss_ready.specs.dss_layout.Limits.{most_complex, most_magnitudes}
use Rattle.dss_ready.specs.dss_layout.Layout.{Elements, LayoutView, branch_phases, complex_count, size_of}
use Rattle.fd_equations.specs.fd_exact.Sums.{list_n}
use Rattle.dss_ready.specs.fd_arith.declared.terms.Term.{Term}
use Rattle.fd_devices.specs.fd_system.declared.constants.Constant.{Constant}
use Rattle.fd_devices.specs.fd_system.Contributions.{AreSmall, IsDivided, IsWithin}
use Rattle.fd_devices.specs.fd_system.System.{StampView}
use Rattle.fd_equations.specs.fd_pattern.Coefficients.{linear_entry}
use Rattle.fd_equations.specs.fd_pattern.Conditions.{AreApart, AreLinear, IsKnown, IsLinear, IsNetwork}
use Rattle.fd_equations.specs.fd_pattern.Views.{network_of}
use Rattle.fd_devices.specs.Building.{AreCollected, AreContributions, AreInRange, DeviceFits, IsInside, device_fits, has_small_sums}
use Rattle.fd_devices.specs.Devices.{Device, stamp_of_all}
use Rattle.fd_devices.specs.Scripted.{layout_counts}
use Rattle.fd_network.specs.declared.fault.PlaceFault.{PlaceFault}
use Rattle.fd_network.specs.declared.fault.PlaceFault.TheVariants as place_fault
use Rattle.fd_network.specs.Collecting.{NamesPlace}
use Rattle.fd_network.specs.Faults.{first_out_of_range, first_without}
use Rattle.fd_network.proofs.Faulty.{none_without}
use Rattle.fd_network.proofs.Sums.{small_at_devices}

-- ---- rows

module _ (n size : ℕ) (room : 2 * n ≤ size) where
  all_linear : (ts : List Term) → All (IsInside n) ts → All IsDivided ts → All IsWithin ts → All (IsLinear size) ts
  all_linear [] inside divided within = All-nil (IsLinear size)
  all_linear (t ∷ ts) inside divided within =
      let i = All-head (IsInside n) t ts inside in
      let d = All-head IsDivided t ts divided in
      let row = i.row in
      let col = i.col in
      All-cons (IsLinear size) t ts (record {
        term = record { row = omega arith; col = omega arith; positive = d.positive; most = d.most };
        within = All-head IsWithin t ts within;
      }) (all_linear ts (All-tail (IsInside n) t ts inside) (All-tail IsDivided t ts divided)
      (All-tail IsWithin t ts within))

  pub are_linear : (b : ℕ) (ts : List Term) → b < 2 ^ 24 → AreContributions n b ts → AreLinear size ts
  are_linear b ts few h = record { each = all_linear ts h.inside h.divided h.within; few = omega (arith, h.few) }

  pub all_known : (cs : List Constant) → All (IsKnown (2 * n)) cs → All (IsKnown size) cs
  all_known [] h = All-nil (IsKnown size)
  all_known (c ∷ cs) h =
      let k = All-head (IsKnown (2 * n)) c cs h in
      let row = k.row in
      All-cons (IsKnown size) c cs (record { row = omega arith; least = k.least; most = k.most }) (all_known cs (All-tail (IsKnown (2 * n)) c cs h))

-- ---- faults

-- a device out of range by itself comes first
pub own_first : (ds : List Device) (place : ℕ) → first_without device_fits ds ≡ Some place → first_out_of_range ds ≡ Some place
own_first ds place h = ap (λ o. option_or o (first_without (has_small_sums (stamp_of_all ds).terms) ds)) h

pub own_fault : (ds : List Device) (f : PlaceFault) → NamesPlace (first_without device_fits ds) f → NamesPlace (first_out_of_range ds) f
own_fault ds (place_fault.OutOfRange k) h = own_first ds k h
own_fault ds place_fault.NoMemory h = tt

fit_then_sums : (ds : List Device) → All DeviceFits ds → first_out_of_range ds ≡ first_without (has_small_sums (stamp_of_all ds).terms) ds
fit_then_sums ds h = ap (λ o. option_or o (first_without (has_small_sums (stamp_of_all ds).terms) ds)) (none_without device_fits ds h)

-- where each fits, the first with a large sum is the first out of range
pub sum_first : (ds : List Device) (place : ℕ) → All DeviceFits ds
    → first_without (has_small_sums (stamp_of_all ds).terms) ds ≡ Some place → first_out_of_range ds ≡ Some place
sum_first ds place fit h = fit_then_sums ds fit ∙ h

-- no device in range is out of range
pub no_fault : (ds : List Device) → AreInRange ds → first_out_of_range ds ≡ None
no_fault ds h =
    fit_then_sums ds h.each
    ∙ none_without (has_small_sums (stamp_of_all ds).terms) ds (small_at_devices (stamp_of_all ds).terms ds h.sums)

-- ---- the network

-- what elements add is a network, where the sums are small and no two magnitudes stand at one place
pub is_network : (layout : LayoutView) (es : Elements) (ds : List Device) (a : StampView)
    → AreCollected (length layout.nodes) (complex_count layout) (size_of layout) es ds a
    → ((row col : ℕ) → AreSmall (linear_entry a.terms row col)) → AreApart a.loads
    → length es ≤ most_elements → list_n (λ e. branch_phases e.1) es ≤ most_complex
    → complex_count layout ≤ most_complex → length layout.magnitudes ≤ most_magnitudes
    → IsNetwork (network_of (layout_counts layout) a)
is_network layout es ds a h small apart few branches complexes magnitudes =
    let b = h.bounded in
    let few_constants = b.few_constants in
    let few_loads = b.few_loads in
    let draw = b.draw in
    record {
      small = omega arith;
      nodes = omega arith;
      unknowns = refl;
      terms = are_linear (complex_count layout) (size_of layout) (omega arith)
          (64 * (length es + list_n (λ e. branch_phases e.1) es)) a.terms (omega arith) b.terms;
      entries = small;
      constants = all_known (complex_count layout) (size_of layout) (omega arith) a.constants b.constants;
      few_constants = omega arith;
      loads = b.loads;
      few_loads = omega arith;
      apart = apart;
      draw = omega arith;
    }
