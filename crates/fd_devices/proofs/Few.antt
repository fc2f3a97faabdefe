-- How much of each list a device adds at most, at any settings.
use Rattle.std.proofs.Common.{◌≡◌, ℕ, zero, suc, ◌+◌, ◌*◌, ◌^◌, ◌≤◌, ℤ, pos, negsuc, neg_ℤ, Bool, true, false, cond, List, [], ◌∷◌, ◌++◌, length, length-append, arith, refl}
use Rattle.std.specs.Ordering.{int_eq}
use Rattle.dss_layout.specs.dss_model.declared.element.Element.{Element}
use Rattle.dss_layout.specs.dss_model.declared.element.Element.TheVariants as the
use Rattle.dss_layout.specs.Layout.{LayoutView, branch_phases, complex_count, ends_of, first_magnitude, size_of}
use Rattle.dss_layout.specs.fd_arith.declared.terms.NodeAt.{NodeAt}
use Rattle.dss_layout.specs.fd_arith.declared.terms.NodeAt.TheVariants.{Ground, Node}
use Rattle.dss_layout.specs.fd_arith.declared.terms.Ends.{Ends}
use Rattle.dss_layout.specs.fd_arith.declared.terms.Term.{Term}
use Rattle.dss_layout.specs.fd_arith.declared.terms.TapPair.{TapPair}
use Rattle.fd_xfmr.specs.fd_system.Contributions.{complex_terms, concat_below, one, shunt_list}
use Rattle.fd_xfmr.specs.declared.data.XfmrData.{XfmrData}
use Rattle.fd_xfmr.specs.Leakage.{coefficients_of}
use Rattle.fd_xfmr.specs.declared.leakage.Coefficients.{Coefficients}
use Rattle.fd_xfmr.specs.declared.terms.PhaseAt.{PhaseAt}
use Rattle.fd_xfmr.specs.Transformer.{branch_list, current_list, list_at, phase_at, phase_list, xfmr_list}
use Rattle.fd_cap.specs.declared.data.CapData.{CapData}
use Rattle.fd_cap.specs.Capacitor.{cap_list, cap_pair, cap_power, list_at as bank_list_at, phase_list as bank_phase_list, volts_squared}
use Rattle.fd_devices.specs.Building.{IsSettled}
use Rattle.fd_devices.specs.Data.{cap_data_of, xfmr_data_of}
use Rattle.fd_devices.specs.Devices.{device_stamp}
use Rattle.fd_devices.specs.Kept.{AreFewOf}
use Rattle.fd_devices.specs.Scripted.{device_of, first_state, first_taps}
use Rattle.fd_devices.specs.Settings.{Settings}
use Rattle.fd_devices.specs.Standing.{IsReadyAt, IsSettledAt}
use Rattle.fd_devices.proofs.Keeping.{fixed_few}
use Rattle.fd_devices.proofs.PartLoads.{count_parts, few_phases, length-concat, parts_few}

-- ---- contributions of complex numbers

by_test : (t : Bool) (x : Term) → length (cond t [] (x ∷ [])) ≤ 1
by_test true x = omega arith
by_test false x = omega arith

one_few : (row col : ℕ) (num den : ℤ) → length (one row col num den) ≤ 1
one_few row col num den = by_test (int_eq num (pos 0)) (record { row = row; col = col; num = num; den = den })

complex_few : (r c : NodeAt) (re im den : ℤ) → length (complex_terms r c re im den) ≤ 4
complex_few (Node r) (Node c) re im den =
    let a = one (2 * r) (2 * c) re den in
    let b = one (2 * r) (2 * c + 1) (neg_ℤ im) den in
    let d = one (2 * r + 1) (2 * c) im den in
    let e = one (2 * r + 1) (2 * c + 1) re den in
    omega (
      arith,
      length-append a (b ++ (d ++ e)),
      length-append b (d ++ e),
      length-append d e,
      one_few (2 * r) (2 * c) re den,
      one_few (2 * r) (2 * c + 1) (neg_ℤ im) den,
      one_few (2 * r + 1) (2 * c) im den,
      one_few (2 * r + 1) (2 * c + 1) re den,
    )
complex_few (Node r) Ground re im den = omega arith
complex_few Ground c re im den = omega arith

real_few : (r c : NodeAt) (re den : ℤ) → length (complex_terms r c re (pos 0) den) ≤ 2
real_few (Node r) (Node c) re den =
    let a = one (2 * r) (2 * c) re den in
    let e = one (2 * r + 1) (2 * c + 1) re den in
    omega (arith, length-append a e, one_few (2 * r) (2 * c) re den, one_few (2 * r + 1) (2 * c + 1) re den)
real_few (Node r) Ground re den = omega arith
real_few Ground c re den = omega arith

imaginary_few : (r c : NodeAt) (im den : ℤ) → length (complex_terms r c (pos 0) im den) ≤ 2
imaginary_few (Node r) (Node c) im den =
    let b = one (2 * r) (2 * c + 1) (neg_ℤ im) den in
    let d = one (2 * r + 1) (2 * c) im den in
    omega (
      arith,
      length-append b (d ++ []),
      length-append d [],
      one_few (2 * r) (2 * c + 1) (neg_ℤ im) den,
      one_few (2 * r + 1) (2 * c) im den,
    )
imaginary_few (Node r) Ground im den = omega arith
imaginary_few Ground c im den = omega arith

-- two lists after one another
both_few : (a b : ℕ) (ts us : List Term) → length ts ≤ a → length us ≤ b → length (ts ++ us) ≤ a + b
both_few a b ts us h k = omega (arith, length-append ts us, h, k)

-- ---- transformers

module _ (c : Coefficients) (p : PhaseAt) where
  branch_few : length (branch_list c p) ≤ 12
  branch_few =
      both_few 8 4 _ (complex_terms p.branch p.branch (neg_ℤ c.r) (neg_ℤ c.x) (pos (10 ^ 22)))
      (both_few 4 4 _ _
      (both_few 2 2 (complex_terms p.branch p.winding1.first c.ratio (pos 0) c.ratio_over) _
      (real_few p.branch p.winding1.first c.ratio c.ratio_over)
      (real_few p.branch p.winding1.second (neg_ℤ c.ratio) c.ratio_over))
      (both_few 2 2 (complex_terms p.branch p.winding2.first (negsuc 0) (pos 0) (pos 1)) _
      (real_few p.branch p.winding2.first (negsuc 0) (pos 1)) (real_few p.branch p.winding2.second (pos 1) (pos 1))))
      (complex_few p.branch p.branch (neg_ℤ c.r) (neg_ℤ c.x) (pos (10 ^ 22)))

  current_few : length (current_list c p) ≤ 8
  current_few =
      both_few 2 6 (complex_terms p.winding1.first p.branch c.ratio (pos 0) c.ratio_over) _
      (real_few p.winding1.first p.branch c.ratio c.ratio_over)
      (both_few 2 4 (complex_terms p.winding1.second p.branch (neg_ℤ c.ratio) (pos 0) c.ratio_over) _
      (real_few p.winding1.second p.branch (neg_ℤ c.ratio) c.ratio_over)
      (both_few 2 2 (complex_terms p.winding2.first p.branch (negsuc 0) (pos 0) (pos 1)) _
      (real_few p.winding2.first p.branch (negsuc 0) (pos 1)) (real_few p.winding2.second p.branch (pos 1) (pos 1))))

  phase_few : length (phase_list c p) ≤ 20
  phase_few = both_few 12 8 (branch_list c p) (current_list c p) branch_few current_few

xfmr_few : (d : XfmrData) (t : TapPair) (at : Ends) → d.phases ≤ 3 → length (xfmr_list d t at) ≤ 60
xfmr_few d t at few =
    let all = length-concat 20 d.phases (list_at (coefficients_of d t) d at) (λ k. phase_few (coefficients_of d t) (phase_at d at k)) in
    omega (arith, all, few)

-- ---- banks

shunt_few : (m k : NodeAt) (im den : ℤ) → length (shunt_list m k (pos 0) im den) ≤ 8
shunt_few m k im den =
    both_few 4 4 _ _
    (both_few 2 2 (complex_terms m m (pos 0) im den) (complex_terms m k (pos 0) (neg_ℤ im) den)
    (imaginary_few m m im den) (imaginary_few m k (neg_ℤ im) den))
    (both_few 2 2 (complex_terms k m (pos 0) (neg_ℤ im) den) (complex_terms k k (pos 0) im den)
    (imaginary_few k m (neg_ℤ im) den) (imaginary_few k k im den))

cap_few : (d : CapData) (closed : Bool) (at : Ends) → d.phases ≤ 3 → length (cap_list d closed at) ≤ 24
cap_few d true at few =
    let all = length-concat 8 d.phases (bank_list_at d at)
    (λ k. shunt_few (cap_pair d at k).first (cap_pair d at k).second (cap_power d) (pos (volts_squared d))) in
    omega (arith, all, few)
cap_few d false at few = omega arith

-- ---- elements

-- what a settled device of an element that is ready adds is few
pub few_of : (layout : LayoutView) (hertz place : ℕ) (e : Element) (s : Settings) → IsReadyAt layout place e
    → IsSettledAt layout hertz place e s → AreFewOf e (device_stamp (device_of layout hertz place e s))
few_of layout hertz place (the.Transformer t) s ready settled = record {
  terms = xfmr_few (xfmr_data_of t) (first_taps s.taps) (ends_of layout place (the.Transformer t)) (few_phases t.phases ready.in_range.phases);
  loads = omega arith;
  constants = omega arith;
}
few_of layout hertz place (the.Capacitor k) s ready settled = record {
  terms = cap_few (cap_data_of k) (first_state s.closed) (ends_of layout place (the.Capacitor k)) (few_phases k.phases ready.in_range.phases);
  loads = omega arith;
  constants = omega arith;
}
few_of layout hertz place (the.Load l) s ready settled =
    let ns = (ends_of layout place (the.Load l)).first in
    record {
      terms = parts_few l ns (first_magnitude layout place) s.powers (length layout.nodes) ready.sited.0.below;
      loads = count_parts l ns (first_magnitude layout place) s.powers;
      constants = omega arith;
    }
few_of layout hertz place e s ready settled = fixed_few layout hertz place e s refl settled
