-- The contributions of a transformer add up to its equations, and have denominators in range.
use Rattle.std.proofs.Common.{ℕ, ◌+◌, ◌<◌, ◌≤◌, ◌^◌, ℤ, pos, negsuc, neg_ℤ, nat_abs, ◌++◌, length, arith, lit<, subst, sym}
use Rattle.std.specs.List.{All}
use Rattle.std.proofs.lemmas.Int.{ints}
use Rattle.std.proofs.lemmas.List.Elements.{All-append}
use Rattle.fd_system.specs.fd_exact.Fractions.{Same}
use Rattle.fd_system.specs.fd_exact.States.{State}
use Rattle.fd_system.specs.fd_arith.declared.terms.NodeAt.{NodeAt}
use Rattle.fd_system.specs.fd_arith.declared.terms.Ends.{Ends}
use Rattle.fd_system.specs.Complex.{◌⊟◌, ◌⊠◌, negative}
use Rattle.fd_system.specs.Contributions.{row_sum, complex_terms, IsDivided}
use Rattle.fd_system.specs.Equations.{unknown, side, equation, AddsUp}
use Rattle.fd_system.proofs.CallerLemmas.{complex_divided, concat_divided, joined_few, concat_few, complex_few, real_few, complex_row, negative_complex, plain_complex, minus_complex, same_place, row-append, concat_row, single, rewritten, difference_times, SameComplex-sym, negative-minus, unknown-pos}
use Rattle.fd_xfmr.specs.declared.data.XfmrData.{XfmrData}
use Rattle.fd_xfmr.specs.declared.leakage.Coefficients.{Coefficients}
use Rattle.fd_xfmr.specs.declared.terms.PhaseAt.{PhaseAt}
use Rattle.fd_xfmr.specs.Leakage.{AreWithin, coefficients_of}
use Rattle.fd_xfmr.specs.Transformer.{across, branch_list, current_list, leakage_impedance, list_at, list_by, parts_at, parts_by, phase_at, phase_list, phase_parts, turns_ratio}
use Rattle.fd_xfmr.specs.Laws.{XfmrLaw}
use Rattle.fd_xfmr.proofs.Numbers.{are_within}
use Rattle.fd_xfmr.proofs.Products.{phases_few}

-- ---- one phase

module _ (c : Coefficients) (p : PhaseAt) (over : 0 < nat_abs c.ratio_over) (x : State) (o : 0 < x.over) (l : ℕ) where
  times_ratio : (r n : NodeAt)
      → Same (row_sum l (complex_terms r n c.ratio (pos 0) c.ratio_over) x) (side l r (turns_ratio c ⊠ unknown x n))
  times_ratio r n = complex_row r n c.ratio (pos 0) c.ratio_over x l over o

  minus_ratio : (r n : NodeAt)
      → Same (row_sum l (complex_terms r n (neg_ℤ c.ratio) (pos 0) c.ratio_over) x) (side l r (negative (turns_ratio c ⊠ unknown x n)))
  minus_ratio r n = negative_complex r n c.ratio (pos 0) c.ratio_over x l over o

  -- a w1
  first_adds : Same (row_sum l (complex_terms p.branch p.winding1.first c.ratio (pos 0) c.ratio_over
      ++ complex_terms p.branch p.winding1.second (neg_ℤ c.ratio) (pos 0) c.ratio_over) x)
      (side l p.branch (turns_ratio c ⊠ across x p.winding1))
  first_adds =
      let u = unknown x p.winding1.first in
      let v = unknown x p.winding1.second in
      let same = difference_times (turns_ratio c) u v (record { re = over; im = over })
      (unknown-pos x p.winding1.first o) (unknown-pos x p.winding1.second o) in
      rewritten _ l p.branch _ (turns_ratio c ⊠ (u ⊟ v)) (SameComplex-sym same) (same_place _ _ x l p.branch _ _
      (times_ratio p.branch p.winding1.first) (minus_ratio p.branch p.winding1.second))

  -- - w2
  second_adds : Same (row_sum l (complex_terms p.branch p.winding2.first (negsuc 0) (pos 0) (pos 1)
      ++ complex_terms p.branch p.winding2.second (pos 1) (pos 0) (pos 1)) x)
      (side l p.branch (negative (across x p.winding2)))
  second_adds =
      let u = unknown x p.winding2.first in
      let v = unknown x p.winding2.second in
      let two = complex_terms p.branch p.winding2.first (negsuc 0) (pos 0) (pos 1) ++ complex_terms p.branch p.winding2.second (pos 1) (pos 0) (pos 1) in
      subst (λ z. Same (row_sum l two x) (side l p.branch z)) (sym (negative-minus u v))
      (same_place _ _ x l p.branch _ _ (minus_complex p.branch p.winding2.first x l o) (plain_complex p.branch p.winding2.second x l o))

  branch_adds : Same (row_sum l (branch_list c p) x) (side l p.branch
      (turns_ratio c ⊠ across x p.winding1 ⊟ across x p.winding2 ⊟ leakage_impedance c ⊠ unknown x p.branch))
  branch_adds =
      same_place _ _ x l p.branch _ _ (same_place _ _ x l p.branch _ _ first_adds second_adds)
      (negative_complex p.branch p.branch c.r c.x (pos (10 ^ 22)) x l (lit< tt) o)

  phase_adds : Same (row_sum l (phase_list c p) x) (equation l (phase_parts c p x))
  phase_adds =
      row-append _ _ x l _ _ branch_adds
      (row-append _ _ x l _ _ (times_ratio p.winding1.first p.branch)
      (row-append _ _ x l _ _ (minus_ratio p.winding1.second p.branch)
      (row-append _ _ x l _ _ (minus_complex p.winding2.first p.branch x l o)
      (single _ _ (plain_complex p.winding2.second p.branch x l o)))))

over_some : (c : Coefficients) → AreWithin c → 0 < nat_abs c.ratio_over
over_some c w = let h = w.over_least in omega (arith, ints)

xfmr_adds_up : (c : Coefficients) (d : XfmrData) (at : Ends) → AreWithin c → AddsUp (list_by c d at) (parts_by c d at)
xfmr_adds_up c d at w x o l = concat_row (list_at c d at) x l (parts_at c d at x) d.phases (λ k q. phase_adds c (phase_at d at k) (over_some c w) x o l)

-- ---- the denominators

module _ (c : Coefficients) (w : AreWithin c) (p : PhaseAt) where
  by_ratio : (r n : NodeAt) (a : ℤ) → All IsDivided (complex_terms r n a (pos 0) c.ratio_over)
  by_ratio r n a = complex_divided c.ratio_over w.over_least w.over_most r n a (pos 0)

  whole : (r n : NodeAt) (a : ℤ) → All IsDivided (complex_terms r n a (pos 0) (pos 1))
  whole r n a = complex_divided (pos 1) (record { lt = tt }) (record { le = tt }) r n a (pos 0)

  branch_divided : All IsDivided (branch_list c p)
  branch_divided =
      All-append IsDivided _ (complex_terms p.branch p.branch (neg_ℤ c.r) (neg_ℤ c.x) (pos (10 ^ 22)))
      (All-append IsDivided (complex_terms p.branch p.winding1.first c.ratio (pos 0) c.ratio_over
      ++ complex_terms p.branch p.winding1.second (neg_ℤ c.ratio) (pos 0) c.ratio_over)
      _ (All-append IsDivided _ (complex_terms p.branch p.winding1.second (neg_ℤ c.ratio) (pos 0) c.ratio_over)
      (by_ratio p.branch p.winding1.first c.ratio) (by_ratio p.branch p.winding1.second (neg_ℤ c.ratio)))
      (All-append IsDivided _ (complex_terms p.branch p.winding2.second (pos 1) (pos 0) (pos 1))
      (whole p.branch p.winding2.first (negsuc 0)) (whole p.branch p.winding2.second (pos 1))))
      (complex_divided (pos (10 ^ 22)) (record { lt = tt }) (record { le = tt }) p.branch p.branch (neg_ℤ c.r)
      (neg_ℤ c.x))

  current_divided : All IsDivided (current_list c p)
  current_divided =
      All-append IsDivided (complex_terms p.winding1.first p.branch c.ratio (pos 0) c.ratio_over) _
      (by_ratio p.winding1.first p.branch c.ratio)
      (All-append IsDivided (complex_terms p.winding1.second p.branch (neg_ℤ c.ratio) (pos 0) c.ratio_over) _
      (by_ratio p.winding1.second p.branch (neg_ℤ c.ratio))
      (All-append IsDivided (complex_terms p.winding2.first p.branch (negsuc 0) (pos 0) (pos 1)) _
      (whole p.winding2.first p.branch (negsuc 0)) (whole p.winding2.second p.branch (pos 1))))

  phase_divided : All IsDivided (phase_list c p)
  phase_divided = All-append IsDivided (branch_list c p) (current_list c p) branch_divided current_divided

xfmr_divided : (c : Coefficients) (d : XfmrData) (at : Ends) → AreWithin c → All IsDivided (list_by c d at)
xfmr_divided c d at w = concat_divided (list_at c d at) d.phases (λ k. phase_divided c w (phase_at d at k))

-- ---- their number

module _ (c : Coefficients) (p : PhaseAt) where
  branch_few : length (branch_list c p) ≤ 12
  branch_few =
      joined_few 8 4 _ (complex_terms p.branch p.branch (neg_ℤ c.r) (neg_ℤ c.x) (pos (10 ^ 22)))
      (joined_few 4 4 (complex_terms p.branch p.winding1.first c.ratio (pos 0) c.ratio_over
      ++ complex_terms p.branch p.winding1.second (neg_ℤ c.ratio) (pos 0) c.ratio_over)
      _ (joined_few 2 2 (complex_terms p.branch p.winding1.first c.ratio (pos 0) c.ratio_over) _
      (real_few p.branch p.winding1.first c.ratio c.ratio_over)
      (real_few p.branch p.winding1.second (neg_ℤ c.ratio) c.ratio_over))
      (joined_few 2 2 (complex_terms p.branch p.winding2.first (negsuc 0) (pos 0) (pos 1)) _
      (real_few p.branch p.winding2.first (negsuc 0) (pos 1)) (real_few p.branch p.winding2.second (pos 1) (pos 1))))
      (complex_few p.branch p.branch (neg_ℤ c.r) (neg_ℤ c.x) (pos (10 ^ 22)))

  current_few : length (current_list c p) ≤ 8
  current_few =
      joined_few 2 6 (complex_terms p.winding1.first p.branch c.ratio (pos 0) c.ratio_over) _
      (real_few p.winding1.first p.branch c.ratio c.ratio_over)
      (joined_few 2 4 (complex_terms p.winding1.second p.branch (neg_ℤ c.ratio) (pos 0) c.ratio_over) _
      (real_few p.winding1.second p.branch (neg_ℤ c.ratio) c.ratio_over)
      (joined_few 2 2 (complex_terms p.winding2.first p.branch (negsuc 0) (pos 0) (pos 1)) _
      (real_few p.winding2.first p.branch (negsuc 0) (pos 1)) (real_few p.winding2.second p.branch (pos 1) (pos 1))))

  phase_few : length (phase_list c p) ≤ 20
  phase_few = joined_few 12 8 (branch_list c p) (current_list c p) branch_few current_few

list_few : (c : Coefficients) (d : XfmrData) (at : Ends) → d.phases ≤ 3 → length (list_by c d at) ≤ 60
list_few c d at h = let all = concat_few 20 (list_at c d at) d.phases (λ k. phase_few c (phase_at d at k)) in omega (arith, all)

pub xfmr_is : XfmrLaw
xfmr_is d t at h k =
    let c = coefficients_of d t in
    let w = are_within d t h k in
    record { numbers = w; adds_up = xfmr_adds_up c d at w; divided = xfmr_divided c d at w; few = list_few c d at (phases_few d.phases h.phases) }
