-- The contributions of a capacitor bank add up to its equations, have denominators in range and are few.
use Rattle.std.proofs.Common.{ℕ, ◌+◌, ◌<◌, ◌≤◌, ℤ, pos, neg_ℤ, Bool, true, false, ◌++◌, length, arith, sym, subst}
use Rattle.std.specs.List.{All}
use Rattle.std.proofs.lemmas.Int.{ints}
use Rattle.std.proofs.lemmas.List.Elements.{All-nil, All-append}
use Rattle.fd_system.specs.fd_exact.Fractions.{Same}
use Rattle.fd_system.specs.fd_exact.FractionLaws.{Same-nothing}
use Rattle.fd_system.specs.fd_exact.States.{State}
use Rattle.fd_system.specs.fd_arith.declared.terms.NodeAt.{NodeAt}
use Rattle.fd_system.specs.fd_arith.declared.terms.Ends.{Ends}
use Rattle.fd_system.specs.Complex.{◌⊟◌, ◌⊠◌, negative}
use Rattle.fd_system.specs.Contributions.{row_sum, complex_terms, IsDivided}
use Rattle.fd_system.specs.Equations.{unknown, side, equation, AddsUp}
use Rattle.fd_system.proofs.CallerLemmas.{complex_divided, concat_divided, SameComplex-negative, joined_few, concat_few, imaginary_few, complex_row, negative_complex, same_place, row-append, concat_row, single, rewritten, difference_times, SameComplex-sym, negative-minus, unknown-pos}
use Rattle.fd_system.specs.declared.terminals.NodePair.{NodePair}
use Rattle.fd_cap.specs.declared.data.CapData.{CapData}
use Rattle.fd_cap.specs.Capacitor.{IsCap, admittance, cap_list, cap_pair, cap_parts, cap_power, list_at, parts_at, phase_list, phase_parts, volts_squared}
use Rattle.fd_cap.specs.Laws.{CapLaw}
use Rattle.fd_cap.proofs.Bounds.{phases_few, squared_positive, squared_most}

-- ---- one phase

module _ (d : CapData) (p : NodePair) (over : 0 < volts_squared d) (x : State) (o : 0 < x.over) (l : ℕ) where
  times : (r n : NodeAt)
      → Same (row_sum l (complex_terms r n (pos 0) (cap_power d) (pos (volts_squared d))) x) (side l r (admittance d ⊠ unknown x n))
  times r n = complex_row r n (pos 0) (cap_power d) (pos (volts_squared d)) x l over o

  minus_times : (r n : NodeAt) → Same (row_sum l (complex_terms r n (pos 0) (neg_ℤ (cap_power d)) (pos (volts_squared d))) x)
      (side l r (negative (admittance d ⊠ unknown x n)))
  minus_times r n = negative_complex r n (pos 0) (cap_power d) (pos (volts_squared d)) x l over o

  phase_adds : Same (row_sum l (phase_list d p) x) (equation l (phase_parts d p x))
  phase_adds =
      let y = admittance d in
      let u = unknown x p.first in
      let v = unknown x p.second in
      let same = SameComplex-sym (difference_times y u v (record { re = over; im = over }) (unknown-pos x p.first o) (unknown-pos x p.second o)) in
      let b = cap_power d in
      let n = pos (volts_squared d) in
      let back = complex_terms p.second p.first (pos 0) (neg_ℤ b) n ++ complex_terms p.second p.second (pos 0) b n in
      let drawn = rewritten _ l p.first _ (y ⊠ (u ⊟ v)) same (same_place _ _ x l p.first _ _ (times p.first p.first) (minus_times p.first p.second)) in
      let turned = same_place _ _ x l p.second _ _ (minus_times p.second p.first) (times p.second p.second) in
      let given = subst (λ z. Same (row_sum l back x) (side l p.second z)) (sym (negative-minus (y ⊠ u) (y ⊠ v))) turned in
      row-append _ _ x l _ _ drawn (single _ _ (rewritten _ l p.second _ (negative (y ⊠ (u ⊟ v))) (SameComplex-negative same) given))

cap_adds_up : (d : CapData) (closed : Bool) (at : Ends) → IsCap d
    → AddsUp (cap_list d closed at) (cap_parts d closed at)
cap_adds_up d true at h x o l = concat_row (list_at d at) x l (parts_at d at x) d.phases (λ k q. phase_adds d (cap_pair d at k) (squared_positive d h) x o l)
cap_adds_up d false at h x o l = Same-nothing

-- ---- the denominators

phase_divided : (d : CapData) (p : NodePair) → IsCap d → All IsDivided (phase_list d p)
phase_divided d p h =
    let b = cap_power d in
    let n = pos (volts_squared d) in
    All-append IsDivided (complex_terms p.first p.first (pos 0) b n ++ complex_terms p.first p.second (pos 0) (neg_ℤ b) n) _
    (All-append IsDivided (complex_terms p.first p.first (pos 0) b n) _ (by_square p.first p.first b) (by_square p.first p.second (neg_ℤ b)))
    (All-append IsDivided (complex_terms p.second p.first (pos 0) (neg_ℤ b) n) _ (by_square p.second p.first (neg_ℤ b)) (by_square p.second p.second b))
  where
    by_square : (r c : NodeAt) (b : ℤ) → All IsDivided (complex_terms r c (pos 0) b (pos (volts_squared d)))
    by_square r c b =
        let s = squared_positive d h in
        let m = squared_most d h in
        complex_divided (pos (volts_squared d)) (omega (arith, ints)) (omega (arith, ints)) r c (pos 0) b

cap_divided : (d : CapData) (closed : Bool) (at : Ends) → IsCap d → All IsDivided (cap_list d closed at)
cap_divided d true at h = concat_divided (list_at d at) d.phases (λ k. phase_divided d (cap_pair d at k) h)
cap_divided d false at h = All-nil IsDivided

-- ---- their number

phase_few : (d : CapData) (p : NodePair) → length (phase_list d p) ≤ 8
phase_few d p =
    let b = cap_power d in
    let n = pos (volts_squared d) in
    joined_few 4 4 (complex_terms p.first p.first (pos 0) b n ++ complex_terms p.first p.second (pos 0) (neg_ℤ b) n) _
    (joined_few 2 2 (complex_terms p.first p.first (pos 0) b n) _ (imaginary_few p.first p.first b n) (imaginary_few p.first p.second (neg_ℤ b) n))
    (joined_few 2 2 (complex_terms p.second p.first (pos 0) (neg_ℤ b) n) _ (imaginary_few p.second p.first (neg_ℤ b) n) (imaginary_few p.second p.second b n))

cap_few : (d : CapData) (closed : Bool) (at : Ends) → IsCap d → length (cap_list d closed at) ≤ 24
cap_few d true at h =
    let r = concat_few 8 (list_at d at) d.phases (λ k. phase_few d (cap_pair d at k)) in
    let p = phases_few d h in
    omega (arith, r, p)
cap_few d false at h = omega arith

pub cap_is : CapLaw
cap_is d closed at h = record { adds_up = cap_adds_up d closed at h; divided = cap_divided d closed at h; few = cap_few d closed at h }
