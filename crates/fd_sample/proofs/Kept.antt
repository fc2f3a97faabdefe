-- What the probes of a circuit that passed the tests of Solve keep to.
use Rattle.std.proofs.Common.{◌≡◌, ◌≢◌, ℕ, ◌+◌, ◌++◌, ◌<◌, ◌≤◌, ◌==◌, Bool, true, false, List, length, take, slice_get, Option, Some, None, refl, sym, ap, ◌∙◌, subst, arith}
use Rattle.std.specs.Prelude.{All, IfSome, ◌&&◌}
use Rattle.std.specs.Cmp.Lexicographic.{bytes_decides}
use Rattle.std.specs.List.{filter_map}
use Rattle.std.specs.Option.{option_map, option_to_list}
use Rattle.std.proofs.lemmas.Bool.{and_from, eq-eqb}
use Rattle.std.proofs.lemmas.Bool.Decides.{nat_tests}
use Rattle.std.proofs.lemmas.List.{take_all}
use Rattle.std.proofs.lemmas.Option.{same_Some}
use Rattle.fd_network.specs.fd_exact.Sums.{list_n}
use Rattle.fd_network.specs.dss_model.InRange.{ElementInRange, TransformerInRange, WindingInRange}
use Rattle.fd_network.specs.dss_model.declared.capcontrol.CapControl.{CapControl}
use Rattle.fd_network.specs.dss_model.declared.element.Element.{Element}
use Rattle.fd_network.specs.dss_model.declared.element.Element.TheVariants as the
use Rattle.fd_network.specs.dss_model.declared.names.Class.TheVariants as class
use Rattle.fd_network.specs.dss_model.declared.names.ElementName.{ElementName}
use Rattle.fd_network.specs.dss_model.declared.regcontrol.RegControl.{RegControl}
use Rattle.fd_network.specs.dss_model.declared.transformer.Transformer.{Transformer}
use Rattle.fd_network.specs.dss_circuit.Circuit.{CircuitView}
use Rattle.fd_network.specs.dss_circuit.WellFormed.{IsEntry}
use Rattle.fd_network.specs.dss_layout.Layout.{Elements, layout_of, size_of}
use Rattle.fd_network.specs.dss_ready.Mentions.{controls_bank, controls_winding, gives_name, is_second_of_bank, is_second_of_winding}
use Rattle.fd_network.specs.dss_ready.Passed.{AreValuesFit}
use Rattle.fd_network.specs.dss_ready.Ready.{HasPassed}
use Rattle.fd_network.proofs.CallerLemmas.dss_ready.{passed}
use Rattle.fd_network.specs.fd_devices.Settings.{bank_count, tap_count}
use Rattle.fd_network.proofs.CallerLemmas.fd_devices.{all_at}
use Rattle.fd_regctl.specs.fd_queue.Controls.{Positions}
use Rattle.fd_sample.specs.declared.probe.CapProbe.{CapProbe}
use Rattle.fd_sample.specs.declared.probe.Probe.{Probe}
use Rattle.fd_sample.specs.declared.probe.Probe.TheVariants as probe
use Rattle.fd_sample.specs.declared.probe.RegProbe.{RegProbe}
use Rattle.fd_sample.specs.Circuits.{AreApart, AreProbes, HasRange, HasTimes, IsCapProbeIn, IsProbeOf, IsRegProbeIn, banks_before, element_at, probe_in, probes_of, transformers_before}
use Rattle.fd_sample.specs.Probes.{HasDevice, IsProbe}
use Rattle.fd_sample.specs.Scripted.{winding_of}
use Rattle.fd_sample.proofs.Fitting.{cap_fit, reg_fit}
use Rattle.fd_sample.proofs.Listed.{all_listed, few_listed, listed_next, none_at, pairs_listed, slice_get_take}
use Rattle.fd_sample.proofs.Named.{bank_below, bank_placed, by_kind, one_place, one_transformer_place, placed, probe_of, transformer_below, transformer_placed}
use Rattle.fd_sample.proofs.Standing.{capcontrol_in, entry_of, regcontrol_in}

winding_range : (t : Bool) (xfmr : Transformer) → TransformerInRange xfmr → WindingInRange (winding_of t xfmr)
winding_range true xfmr h = h.second
winding_range false xfmr h = h.first

-- a bank that this control switches is that of this name
switches : (x : Element) (control : CapControl) (name : List ℕ) → x ≡ the.CapControl control
    → control.capacitor ≡ Some name → controls_bank name x ≡ true
switches x control name is given = ap (controls_bank name) is ∙ (ap (gives_name name) given ∙ (bytes_decides name name).1 refl)

-- a control of this winding of this transformer
regulates : (x : Element) (control : RegControl) (name : List ℕ) (winding : ℕ) → x ≡ the.RegControl control
    → control.transformer ≡ Some name →
    control.winding ≡ winding → controls_winding name winding x ≡ true
regulates x control name winding is given same =
    ap (controls_winding name winding) is
    ∙ (ap (λ (o : Option (List ℕ)). gives_name name o && (control.winding == winding)) given
    ∙ and_from (gives_name name (Some name)) (control.winding == winding) ((bytes_decides name name).1 refl) (eq-eqb control.winding winding same))

-- a winding is the first or the second
same_winding : (a b : ℕ) → 1 ≤ a → a ≤ 2 → 1 ≤ b → b ≤ 2 → (a == 2) ≡ (b == 2) → a ≡ b
same_winding a b l m n o h = grind (arith, nat_tests)

-- ---- the probes of the elements before a place

pub probes_next : (es : Elements) (k : ℕ) (o : Option Probe) (ps qs : List Probe)
    → ps ≡ filter_map (λ e. probe_in es e.1) (take k es) →
    IsProbeOf es (element_at es k) o → qs ≡ ps ++ option_to_list o → qs ≡ filter_map (λ e. probe_in es e.1) (take (k + 1) es)
probes_next es k o ps qs made own more = by (slice_get es k) refl own
  where
    by : (r : Option (ElementName × Element)) → slice_get es k ≡ r → IsProbeOf es (option_map (λ e. e.1) r) o →
        qs ≡ filter_map (λ e. probe_in es e.1) (take (k + 1) es)
    by None at own = absurd own
    by (Some x) at own =
        more ∙ ap (λ ys. ys ++ option_to_list o) made
        ∙ ap (λ (w : Option Probe). filter_map (λ e. probe_in es e.1) (take k es) ++ option_to_list w) (probe_of es x.1 o own)
        ∙ sym (listed_next (λ (e : ElementName × Element). probe_in es e.1) es k x at)

pub probes_end : (es : Elements) (k : ℕ) (ps : List Probe) → ps ≡ filter_map (λ e. probe_in es e.1) (take k es)
    → length es ≤ k → ps ≡ probes_of es
unfolding probes_of
probes_end es k ps made h = made ∙ ap (filter_map (λ e. probe_in es e.1)) (take_all k es h)

-- ---- what they keep to

module _ (circuit : CircuitView) (h : HasPassed circuit) (range : All (λ e. ElementInRange e.1) circuit.elements)
    (keys : All IsEntry circuit.elements) where
  at_place : (k : ℕ) (x : ElementName × Element) → slice_get circuit.elements k ≡ Some x → ElementInRange x.1
  at_place k x at = all_at (λ (e : ElementName × Element). ElementInRange e.1) circuit.elements k x range at

  -- ---- of one control

  places : (k : ℕ) (x : ElementName × Element) → slice_get circuit.elements k ≡ Some x
      → IfSome (probe_in circuit.elements x.1) (IsProbe (size_of (layout_of circuit.elements)))
  places k x at =
      let there = ap (option_map (λ (e : ElementName × Element). e.1)) at in
      by_kind circuit.elements (IsProbe (size_of (layout_of circuit.elements))) x.1
      (λ control p is r. reg_fit circuit h range keys control p (regcontrol_in circuit h range k x.1 control there is) r)
      (λ control p is r. cap_fit circuit h range keys control p (capcontrol_in circuit h range k x.1 control there is) r)

  times : (k : ℕ) (x : ElementName × Element) → slice_get circuit.elements k ≡ Some x
      → IfSome (probe_in circuit.elements x.1) HasTimes
  times k x at = by_kind circuit.elements HasTimes x.1
      (λ control p is r.
      let own = subst ElementInRange is (at_place k x at) in
      let delay = ap (λ (q : RegProbe). q.delay) r.probe in
      let tapdelay = ap (λ (q : RegProbe). q.tapdelay) r.probe in
      (omega (arith, delay, own.delay), omega (arith, tapdelay, own.tapdelay)))
      (λ control p is r.
      let own = subst ElementInRange is (at_place k x at) in
      let delay = ap (λ (q : CapProbe). q.delay) r.probe in
      let delayoff = ap (λ (q : CapProbe). q.delayoff) r.probe in
      let deadtime = ap (λ (q : CapProbe). q.deadtime) r.probe in
      (omega (arith, delay, own.delay), (omega (arith, delayoff, own.delayoff), omega (arith, deadtime, own.deadtime))))

  ranges : (k : ℕ) (x : ElementName × Element) → slice_get circuit.elements k ≡ Some x
      → IfSome (probe_in circuit.elements x.1) HasRange
  ranges k x at = by_kind circuit.elements HasRange x.1
      (λ control p is r.
      let entry = entry_of (slice_get circuit.elements r.place) (the.Transformer r.transformer) r.there in
      let winding = winding_range (control.winding == 2) r.transformer (at_place r.place (entry.name, the.Transformer r.transformer) entry.is) in
      let least = ap (λ (q : RegProbe). q.min_tap) r.probe in
      let most = ap (λ (q : RegProbe). q.max_tap) r.probe in
      (omega (arith, least, winding.mintap.least), omega (arith, most, winding.maxtap.most)))
      (λ control p is r. tt)

  devices : (at : Positions) → length at.taps ≡ list_n (λ e. tap_count e.1) circuit.elements
      → length at.closed ≡ list_n (λ e. bank_count e.1) circuit.elements →
      (k : ℕ) (x : ElementName × Element) → slice_get circuit.elements k ≡ Some x → IfSome (probe_in circuit.elements x.1) (HasDevice at)
  devices at taps closed k x there = by_kind circuit.elements (HasDevice at) x.1
      (λ control p is r.
      let entry = entry_of (slice_get circuit.elements r.place) (the.Transformer r.transformer) r.there in
      let number = ap (λ (q : RegProbe). q.transformer) r.probe in
      omega (arith, number, taps, transformer_below circuit.elements r.place (entry.name, the.Transformer r.transformer) entry.is refl))
      (λ control p is r.
      let own = placed circuit.elements class.Capacitor control.capacitor r.bank keys r.bank_found in
      let number = ap (λ (q : CapProbe). q.bank) r.probe in
      omega (arith, number, closed, bank_below circuit.elements r.bank own.entry own.there (bank_placed circuit.elements control.capacitor r.bank own)))

  -- ---- of two controls

  -- two controls of one bank: the second would be one too many
  two_of_one : (i j : ℕ) (x y : ElementName × Element) → i < j → slice_get circuit.elements i ≡ Some x
      → slice_get circuit.elements j ≡ Some y →
      (first second : CapControl) → x.1 ≡ the.CapControl first → y.1 ≡ the.CapControl second → (name : List ℕ) → first.capacitor ≡ Some name →
      second.capacitor ≡ Some name → ⊥
  two_of_one i j x y less at_x at_y first second is_x is_y name given_x given_y =
      let fit = subst (λ (e : Element). AreValuesFit circuit.elements (take j circuit.elements) y.0 e) is_y ((passed circuit h).each j y at_y).values in
      let none = subst (λ (o : Option (List ℕ)). is_second_of_bank (take j circuit.elements) o ≡ false) given_y fit.first in
      let not = none_at (λ (e : ElementName × Element). controls_bank name e.1) (take j circuit.elements) i x none
      (slice_get_take circuit.elements j i less ∙ at_x) in
      let does = switches x.1 first name is_x given_x in
      absurd (cc)

  bank_apart : (i j : ℕ) (x y : ElementName × Element) → i < j → slice_get circuit.elements i ≡ Some x
      → slice_get circuit.elements j ≡ Some y →
      (first second : CapControl) → x.1 ≡ the.CapControl first → y.1 ≡ the.CapControl second → (p q : CapProbe) → IsCapProbeIn circuit.elements first p →
      IsCapProbeIn circuit.elements second q → p.bank ≢ q.bank
  bank_apart i j x y less at_x at_y first second is_x is_y p q r s same =
      let es = circuit.elements in
      let own = placed es class.Capacitor first.capacitor r.bank keys r.bank_found in
      let other = placed es class.Capacitor second.capacitor s.bank keys s.bank_found in
      let numbers : banks_before es r.bank ≡ banks_before es s.bank =
      sym (ap (λ (w : CapProbe). w.bank) r.probe) ∙ (same ∙ ap (λ (w : CapProbe). w.bank) s.probe) in
      let place = one_place es r.bank s.bank own.entry other.entry own.there (bank_placed es first.capacitor r.bank own)
      other.there (bank_placed es second.capacitor s.bank other) numbers in
      let entry : own.entry ≡ other.entry = same_Some _ _ (sym own.there ∙ (ap (slice_get es) place ∙ other.there)) in
      let name : own.name ≡ other.name = sym own.key ∙ (ap (λ (e : ElementName × Element). e.0.name) entry ∙ other.key) in
      two_of_one i j x y less at_x at_y first second is_x is_y other.name (own.given_is ∙ ap Some name) other.given_is

  -- two controls of one winding likewise
  two_of_winding : (i j : ℕ) (x y : ElementName × Element) → i < j → slice_get circuit.elements i ≡ Some x
      → slice_get circuit.elements j ≡ Some y →
      (first second : RegControl) → x.1 ≡ the.RegControl first → y.1 ≡ the.RegControl second → (name : List ℕ) → first.transformer ≡ Some name →
      second.transformer ≡ Some name → first.winding ≡ second.winding → ⊥
  two_of_winding i j x y less at_x at_y first second is_x is_y name given_x given_y winding =
      let fit = subst (λ (e : Element). AreValuesFit circuit.elements (take j circuit.elements) y.0 e) is_y ((passed circuit h).each j y at_y).values in
      let none = subst (λ (o : Option (List ℕ)). is_second_of_winding (take j circuit.elements) o second.winding ≡ false) given_y fit.first in
      let not = none_at (λ (e : ElementName × Element). controls_winding name second.winding e.1) (take j circuit.elements) i x none
      (slice_get_take circuit.elements j i less ∙ at_x) in
      let does = regulates x.1 first name second.winding is_x given_x winding in
      absurd (cc)

  winding_apart : (i j : ℕ) (x y : ElementName × Element) → i < j → slice_get circuit.elements i ≡ Some x
      → slice_get circuit.elements j ≡ Some y →
      (first second : RegControl) → x.1 ≡ the.RegControl first → y.1 ≡ the.RegControl second → (p q : RegProbe) → IsRegProbeIn circuit.elements first p →
      IsRegProbeIn circuit.elements second q → p.transformer ≡ q.transformer → p.is_second ≢ q.is_second
  winding_apart i j x y less at_x at_y first second is_x is_y p q r s same winding =
      let es = circuit.elements in
      let own = placed es class.Transformer first.transformer r.place keys r.found in
      let other = placed es class.Transformer second.transformer s.place keys s.found in
      let numbers : transformers_before es r.place ≡ transformers_before es s.place =
      sym (ap (λ (w : RegProbe). w.transformer) r.probe) ∙ (same ∙ ap (λ (w : RegProbe). w.transformer) s.probe) in
      let place = one_transformer_place es r.place s.place own.entry other.entry own.there (transformer_placed es first.transformer r.place own)
      other.there (transformer_placed es second.transformer s.place other) numbers in
      let entry : own.entry ≡ other.entry = same_Some _ _ (sym own.there ∙ (ap (slice_get es) place ∙ other.there)) in
      let name : own.name ≡ other.name = sym own.key ∙ (ap (λ (e : ElementName × Element). e.0.name) entry ∙ other.key) in
      let a = (subst ElementInRange is_x (at_place i x at_x)).winding in
      let b = (subst ElementInRange is_y (at_place j y at_y)).winding in
      let tests : (first.winding == 2) ≡ (second.winding == 2) =
      sym (ap (λ (w : RegProbe). w.is_second) r.probe) ∙ (winding ∙ ap (λ (w : RegProbe). w.is_second) s.probe) in
      two_of_winding i j x y less at_x at_y first second is_x is_y other.name (own.given_is ∙ ap Some name) other.given_is
      (same_winding first.winding second.winding a.least a.most b.least b.most tests)

  apart : (i j : ℕ) (x y : ElementName × Element) → i < j → slice_get circuit.elements i ≡ Some x
      → slice_get circuit.elements j ≡ Some y →
      IfSome (probe_in circuit.elements x.1) (λ p. IfSome (probe_in circuit.elements y.1) (AreApart p))
  apart i j x y less at_x at_y = by_kind circuit.elements (λ p. IfSome (probe_in circuit.elements y.1) (AreApart p)) x.1
      (λ first p is_x r. by_kind circuit.elements (AreApart (probe.Regulator p)) y.1
      (λ second q is_y s. winding_apart i j x y less at_x at_y first second is_x is_y p q r s)
      (λ control q is s. tt))
      (λ first p is_x r. by_kind circuit.elements (AreApart (probe.Bank p)) y.1
      (λ control q is s. tt)
      (λ second q is_y s. bank_apart i j x y less at_x at_y first second is_x is_y p q r s))

  -- ---- of all

  fit : AreProbes circuit.elements (filter_map (λ e. probe_in circuit.elements e.1) circuit.elements)
  fit =
      let es = circuit.elements in
      let g = λ (e : ElementName × Element). probe_in es e.1 in
      record {
        places = all_listed (IsProbe (size_of (layout_of es))) g es places;
        devices = λ at taps closed. all_listed (HasDevice at) g es (devices at taps closed);
        times = all_listed HasTimes g es times;
        ranges = all_listed HasRange g es ranges;
        apart = pairs_listed AreApart g es apart;
        few = few_listed g es;
      }

  pub are_probes : AreProbes circuit.elements (probes_of circuit.elements)
  unfolding probes_of
  are_probes = fit
