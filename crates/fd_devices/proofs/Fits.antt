-- A device that fits is settled, where its element is ready at its place.
use Rattle.std.proofs.Common.{◌≡◌, ℕ, ℤ, pos, ◌*◌, ◌*ℤ◌, ◌≤◌, ◌^◌, Option, Some, None, IfSome, List, [], ◌∷◌, length, map, nat_abs, arith, lit<, refl}
use Rattle.std.specs.List.{All}
use Rattle.std.specs.Prelude.{unwrap_or}
use Rattle.std.proofs.Math.Nat.{mul-le-mul}
use Rattle.std.proofs.lemmas.Int.{ints, unsigned_abs-mul}
use Rattle.std.proofs.lemmas.List.Elements.{All-cons, All-get_or, All-nil}
use Rattle.dss_layout.specs.dss_model.InRange.{CapacitorInRange, LoadInRange, SharesInRange, TransformerInRange, ZipSharesInRange}
use Rattle.dss_layout.specs.dss_model.Ranges.{IsShare}
use Rattle.dss_layout.specs.dss_model.declared.capacitor.Capacitor.{Capacitor}
use Rattle.dss_layout.specs.dss_model.declared.element.Element.{Element}
use Rattle.dss_layout.specs.dss_model.declared.element.Element.TheVariants as the
use Rattle.dss_layout.specs.dss_model.declared.load.Load.{Load}
use Rattle.dss_layout.specs.dss_model.declared.load.LoadKind.{LoadKind}
use Rattle.dss_layout.specs.dss_model.declared.load.LoadKind.TheVariants as kind
use Rattle.dss_layout.specs.dss_model.declared.load.ZipShares.{ZipShares}
use Rattle.dss_layout.specs.dss_model.declared.transformer.Transformer.{Transformer}
use Rattle.dss_layout.specs.Layout.{LayoutView, complex_count, ends_of, first_magnitude}
use Rattle.dss_layout.specs.Limits.{most_complex}
use Rattle.dss_layout.specs.fd_arith.declared.terms.LoadModel.{LoadModel}
use Rattle.dss_layout.specs.fd_arith.declared.terms.LoadModel.TheVariants.{ConstantPower, ConstantImpedance, ConstantCurrent}
use Rattle.dss_layout.specs.fd_arith.declared.terms.NodeAt.{NodeAt}
use Rattle.dss_layout.specs.fd_arith.declared.terms.NodeAt.TheVariants.{Ground, Node}
use Rattle.dss_layout.specs.fd_exact.Nearest.{near_within}
use Rattle.fd_xfmr.specs.fd_system.Contributions.{IsSmall}
use Rattle.fd_xfmr.specs.fd_system.declared.loads.LoadPhase.{LoadPhase}
use Rattle.fd_xfmr.specs.fd_system.Terminals.{node_count, pairs_of}
use Rattle.fd_xfmr.specs.Leakage.{AreTaps, IsXfmr}
use Rattle.fd_cap.specs.Capacitor.{IsCap}
use Rattle.fd_elements.specs.fd_load.Zip.{AreShares, IsPart, share_of, zip_part}
use Rattle.fd_elements.specs.fd_load.declared.zip.PartShares.{PartShares}
use Rattle.fd_elements.proofs.CallerLemmas.{load_voltages, source_voltage}
use Rattle.fd_elements.specs.Connections.{conn_of}
use Rattle.fd_elements.specs.Lines.{line_data_of}
use Rattle.fd_elements.specs.Loads.{load_phase_of, no_shares, parts_by, sole_model, zip_phase_of}
use Rattle.fd_elements.specs.Sources.{source_data_of}
use Rattle.fd_elements.specs.declared.powers.LoadPower.{LoadPower}
use Rattle.fd_pattern.specs.Conditions.{IsAmong}
use Rattle.fd_devices.specs.Building.{DeviceFits, IsModest, IsUsable}
use Rattle.fd_devices.specs.Data.{cap_data_of, xfmr_data_of}
use Rattle.fd_devices.specs.Devices.{capacitor, line, loads, source, transformer}
use Rattle.fd_devices.specs.Scripted.{device_of, first_state, first_taps, part_at, phase_loads, phases_of, power_at}
use Rattle.fd_devices.specs.Settings.{AreOwn, Settings}
use Rattle.fd_devices.specs.Sound.{IsSideOf}
use Rattle.fd_devices.specs.Standing.{HasPlace, IsReadyAt, IsSettledAt}
use Rattle.fd_devices.proofs.Bounded.{line_settled, other_settled, source_settled}
use Rattle.fd_devices.proofs.Capacitors.{capacitor_settled}
use Rattle.fd_devices.proofs.Fitting.{fit_terms}
use Rattle.fd_devices.proofs.PartLoads.{all_concat, few_phases}
use Rattle.fd_devices.proofs.Settling.{capacitor_here, line_here, load_here, phases_settled, source_here, transformer_here}
use Rattle.fd_devices.proofs.Transformers.{pair_below, transformer_settled}

-- ---- data by values in range

xfmr_within : (t : Transformer) → TransformerInRange t → IsXfmr (xfmr_data_of t)
xfmr_within t h = record {
  phases = h.phases;
  kv1 = record { least = h.first.kv.least; most = h.first.kv.most };
  kv2 = record { least = h.second.kv.least; most = h.second.kv.most };
  kva = record { least = h.first.kva.least; most = h.first.kva.most };
  pct_r1 = record { least = h.first.pct_r.least; most = h.first.pct_r.most };
  pct_r2 = record { least = h.second.pct_r.least; most = h.second.pct_r.most };
  xhl = record { least = h.xhl.least; most = h.xhl.most };
}

cap_within : (c : Capacitor) → CapacitorInRange c → IsCap (cap_data_of c)
cap_within c h = record {
  phases = h.phases;
  kvar = record { least = h.kvar.least; most = h.kvar.most };
  kv = record { least = h.kv.least; most = h.kv.most };
}

small_node : (n : ℕ) (node : NodeAt) → n ≤ most_complex → IsAmong n node → IsSmall node
small_node n Ground few h = tt
small_node n (Node k) few h = omega (arith, few, h)

-- ---- part loads

share_size : (power share : ℤ) → nat_abs power ≤ 10 ^ 17 → nat_abs share ≤ 10 ^ 10 → nat_abs (share_of power share) ≤ 10 ^ 18
share_size power share p s =
    let product : nat_abs power * nat_abs share ≤ 10 ^ 17 * 10 ^ 10 = mul-le-mul p s in
    near_within (power *ℤ share) (10 ^ 9) (10 ^ 18) (lit< tt) (omega (arith, unsigned_abs-mul power share, product))

small_share : (share : ℤ) → IsShare share → nat_abs share ≤ 10 ^ 10
small_share share h = let least = h.least in let most = h.most in omega (arith, ints, least, most)

small_shares : (p q : ℤ) → IsShare p → IsShare q → AreShares (record { p = p; q = q })
small_shares p q in_p in_q = record { p = small_share p in_p; q = small_share q in_q }

-- the shares of a load are in range, also where none are given
shares_in_range : (shares : Option ZipShares) → IfSome shares ZipSharesInRange → ZipSharesInRange (unwrap_or shares no_shares)
shares_in_range (Some shares) h = h
shares_in_range None h = record { p = none; q = none }
  where
    zero_share : IsShare (pos 0)
    zero_share = record { least = omega (arith, ints); most = omega (arith, ints) }

    none : SharesInRange (record { impedance = pos 0; current = pos 0; power = pos 0 })
    none = record { impedance = zero_share; current = zero_share; power = zero_share }

module _ (load : Load) (n : ℕ) (ns : List NodeAt) (magnitude : ℕ) (range : LoadInRange load) (few : n ≤ most_complex)
    (side : IsSideOf n (node_count load.phases) ns) where
  usable_at : (k : ℕ) (part : LoadPhase) → IsPart part → IsUsable (part_at load ns magnitude k part)
  usable_at k part h =
      let below = pair_below n (pairs_of load.phases (conn_of load.conn)) ns k side.below in
      record {
        voltages = h.voltages;
        p = h.p;
        q = h.q;
        first = small_node n _ few below.first;
        second = small_node n _ few below.second;
      }

  module _ (power : LoadPower) (own : IsModest power) where
    sole_part : (model : LoadModel) → IsPart (load_phase_of load model power)
    sole_part model =
        let p = own.p in
        let q = own.q in
        record { voltages = load_voltages load model power.p power.q range; p = omega (arith, p); q = omega (arith, q) }

    shared_part : (model : LoadModel) (shares : PartShares) → AreShares shares → IsPart (zip_part (zip_phase_of load power) model shares)
    shared_part model shares h = record {
      voltages = load_voltages load model (share_of power.p shares.p) (share_of power.q shares.q) range;
      p = share_size power.p shares.p own.p h.p;
      q = share_size power.q shares.q own.q h.q;
    }

    usable_by : (kind : LoadKind) (k : ℕ) → All IsUsable (map (part_at load ns magnitude k) (parts_by (sole_model kind) load power))
    usable_by kind.ConstantPower k = All-cons IsUsable _ [] (usable_at k _ (sole_part ConstantPower)) (All-nil IsUsable)
    usable_by kind.ConstantImpedance k = All-cons IsUsable _ [] (usable_at k _ (sole_part ConstantImpedance)) (All-nil IsUsable)
    usable_by kind.ConstantCurrent k = All-cons IsUsable _ [] (usable_at k _ (sole_part ConstantCurrent)) (All-nil IsUsable)
    usable_by kind.Zip k =
        let z = zip_phase_of load power in
        let at = part_at load ns magnitude k in
        let impedance = zip_part z ConstantImpedance z.impedance in
        let current = zip_part z ConstantCurrent z.current in
        let rest = zip_part z ConstantPower z.power in
        let shares = shares_in_range load.zipv range.zipv in
        All-cons IsUsable (at impedance) (at current ∷ at rest ∷ [])
        (usable_at k impedance (shared_part ConstantImpedance z.impedance (small_shares _ _ shares.p.impedance shares.q.impedance)))
        (All-cons IsUsable (at current) (at rest ∷ [])
        (usable_at k current (shared_part ConstantCurrent z.current (small_shares _ _ shares.p.current shares.q.current)))
        (All-cons IsUsable (at rest) []
        (usable_at k rest (shared_part ConstantPower z.power (small_shares _ _ shares.p.power shares.q.power))) (All-nil IsUsable)))

  -- the part loads of a load at nodes among few, with modest powers
  loads_usable : (powers : List LoadPower) → length powers ≡ load.phases → All IsModest powers
      → All IsUsable (phases_of load ns magnitude powers)
  loads_usable powers count modest =
      all_concat IsUsable load.phases (phase_loads load ns magnitude powers) (λ k low.
      let own : IsModest (power_at powers k) = All-get_or IsModest powers k _ (omega (arith, low, count)) modest in
      usable_by (power_at powers k) own load.model k)

-- ---- the device of an element

module _ (layout : LayoutView) (hertz place : ℕ) (s : Settings) where
  pub settled_at : (e : Element) → HasPlace layout place → IsReadyAt layout place e → AreOwn e s → All IsModest s.powers
      → DeviceFits (device_of layout hertz place e s) → IsSettledAt layout hertz place e s
  settled_at (the.Vsource v) known ready own modest fits =
      let at = ends_of layout place (the.Vsource v) in
      source_here layout hertz place (the.Vsource v) s at refl ready.sited v refl (λ m n size side branches.
      source_settled m n size (source_data_of v) at (few_phases v.phases ready.in_range.phases)
      (source_voltage v ready.in_range) side branches (fit_terms (source (source_data_of v) at) fits))
  settled_at (the.Line l) known ready own modest fits =
      let at = ends_of layout place (the.Line l) in
      line_here layout hertz place (the.Line l) s at refl ready.sited l refl (λ m n size first second branches.
      line_settled m n size (line_data_of l hertz) at ready.in_range.phases.most first second branches
      (fit_terms (line (line_data_of l hertz) at) fits))
  settled_at (the.Transformer t) known ready own modest fits =
      let at = ends_of layout place (the.Transformer t) in
      let taps : AreTaps (first_taps s.taps) = All-get_or AreTaps s.taps 0 _ (omega (arith, own.taps)) own.within in
      transformer_here layout hertz place (the.Transformer t) s at refl ready.sited t (first_taps s.taps) refl refl
      (λ m n size first second branches. transformer_settled m n size (xfmr_data_of t) (first_taps s.taps) at
      (xfmr_within t ready.in_range) taps first second branches
      (fit_terms (transformer (xfmr_data_of t) (first_taps s.taps) at) fits))
  settled_at (the.Capacitor c) known ready own modest fits =
      let at = ends_of layout place (the.Capacitor c) in
      capacitor_here layout hertz place (the.Capacitor c) s at refl ready.sited c (first_state s.closed) refl refl
      (λ m n size side. capacitor_settled m n size (cap_data_of c) (first_state s.closed) at
      (cap_within c ready.in_range) side (fit_terms (capacitor (cap_data_of c) (first_state s.closed) at) fits))
  settled_at (the.Load l) known ready own modest fits =
      let at = ends_of layout place (the.Load l) in
      let few = known.magnitudes.few in
      let count : length s.powers ≡ l.phases = omega (arith, own.powers) in
      let usable = loads_usable l (length layout.nodes) at.first (first_magnitude layout place) ready.in_range
      (omega (arith, few)) ready.sited.0 s.powers count modest in
      load_here layout hertz place (the.Load l) s at refl ready.sited l at.first (first_magnitude layout place) refl refl refl
      (phases_settled l at.first (first_magnitude layout place) s.powers ready.in_range usable fits)
  settled_at e known ready own modest fits = other_settled (length layout.nodes) (complex_count layout) _
