-- The contributions of a line add up to its equations, and have denominators in range.
use Rattle.std.proofs.Common.{ℕ, ◌*◌, ◌<◌, ◌≤◌, ◌^◌, ℤ, pos, negsuc, neg_ℤ, List, length, arith, lit<}
use Rattle.std.specs.List.{All}
use Rattle.std.proofs.lemmas.List.Elements.{All-append}
use Rattle.fd_system.specs.fd_exact.Fractions.{Same}
use Rattle.fd_system.specs.fd_exact.States.{State}
use Rattle.fd_system.specs.fd_arith.declared.terms.NodeAt.{NodeAt}
use Rattle.fd_system.specs.fd_arith.declared.terms.Ends.{Ends}
use Rattle.fd_system.specs.Complex.{◌⊟◌, ◌⊠◌}
use Rattle.fd_system.specs.Contributions.{row_sum, complex_terms, concat_below, IsDivided}
use Rattle.fd_system.specs.Equations.{unknown, side, equation, AddsUp}
use Rattle.fd_system.specs.Terminals.{branch_of, node_of}
use Rattle.fd_system.specs.Series.{drop_at, drop_list, drop_of}
use Rattle.fd_system.proofs.CallerLemmas.{complex_row, same_place, same_place_concat, concat_row, row-append, plain_complex, minus_complex, single, complex_divided, concat_divided, drops_add, drops_divided, joined_few, concat_few, complex_few, real_few, imaginary_few}
use Rattle.fd_line.specs.declared.data.LineData.{LineData}
use Rattle.fd_line.specs.Totals.{reactance_of, resistance_of}
use Rattle.fd_line.specs.Line.{branch_row, charge_at, charge_of, end_row, half_charge, line_list, line_parts, line_phase, phase_list, susceptance_of}
use Rattle.fd_line.specs.Laws.{LineLaw}

module _ (l : LineData) (at : Ends) (x : State) (o : 0 < x.over) (k row : ℕ) where
  branch_adds : Same (row_sum row (branch_row l at k) x) (side row (branch_of at.branch k)
      (unknown x (node_of at.first k) ⊟ unknown x (node_of at.second k) ⊟ drop_of (resistance_of l) (reactance_of l) at.branch l.phases x k))
  branch_adds =
      let r = branch_of at.branch k in
      same_place _ _ x row r _ _
      (same_place _ _ x row r _ _ (plain_complex r (node_of at.first k) x row o) (minus_complex r (node_of at.second k) x row o))
      (drops_add (resistance_of l) (reactance_of l) at.branch l.phases k x row o)

  charge_adds : (ns : List NodeAt)
      → Same (row_sum row (concat_below (charge_at l ns k) l.phases) x) (side row (node_of ns k) (charge_of l ns x k))
  charge_adds ns = same_place_concat (charge_at l ns k) x row (node_of ns k) (λ m. half_charge l k m ⊠ unknown x (node_of ns m)) l.phases
      (λ m p. complex_row (node_of ns k) (node_of ns m) (pos 0) (susceptance_of l k m) (pos (2 * 10 ^ 27)) x row (lit< tt) o)

  phase_adds : Same (row_sum row (phase_list l at k) x) (equation row (line_phase l at x k))
  phase_adds =
      row-append _ _ x row _ _ branch_adds (row-append _ _ x row _ _ (same_place _ _ x row (node_of at.first k) _ _
      (plain_complex (node_of at.first k) (branch_of at.branch k) x row o) (charge_adds at.first))
      (single _ _ (same_place _ _ x row (node_of at.second k) _ _
      (minus_complex (node_of at.second k) (branch_of at.branch k) x row o) (charge_adds at.second))))

line_adds_up : (l : LineData) (at : Ends) → AddsUp (line_list l at) (line_parts l at)
line_adds_up l at x o row = concat_row (phase_list l at) x row (line_phase l at x) l.phases (λ k p. phase_adds l at x o k row)

-- ---- the denominators

phase_divided : (l : LineData) (at : Ends) (k : ℕ) → All IsDivided (phase_list l at k)
phase_divided l at k = All-append IsDivided (branch_row l at k) _
    (All-append IsDivided _ (drop_list (resistance_of l) (reactance_of l) at.branch l.phases k)
    (All-append IsDivided _ _ (whole (branch_of at.branch k) (node_of at.first k) (pos 1)) (whole (branch_of at.branch k) (node_of at.second k) (negsuc 0)))
    (drops_divided (resistance_of l) (reactance_of l) at.branch l.phases k))
    (All-append IsDivided (end_row l at.branch at.first (pos 1) k) _ (end_divided at.first (pos 1)) (end_divided at.second (negsuc 0)))
  where
    whole : (r c : NodeAt) (a : ℤ) → All IsDivided (complex_terms r c a (pos 0) (pos 1))
    whole r c a = complex_divided (pos 1) (record { lt = tt }) (record { le = tt }) r c a (pos 0)

    end_divided : (ns : List NodeAt) (sign : ℤ) → All IsDivided (end_row l at.branch ns sign k)
    end_divided ns sign =
        All-append IsDivided (complex_terms (node_of ns k) (branch_of at.branch k) sign (pos 0) (pos 1))
        (concat_below (charge_at l ns k) l.phases) (whole (node_of ns k) (branch_of at.branch k) sign)
        (concat_divided (charge_at l ns k) l.phases (λ m. complex_divided (pos (2 * 10 ^ 27)) (record {
          lt = tt;
        }) (record { le = tt }) (node_of ns k) (node_of ns m) (pos 0) (susceptance_of l k m)))

line_divided : (l : LineData) (at : Ends) → All IsDivided (line_list l at)
line_divided l at = concat_divided (phase_list l at) l.phases (phase_divided l at)

-- ---- their number

module _ (l : LineData) (at : Ends) (h : l.phases ≤ 3) (k : ℕ) where
  branch_few : length (branch_row l at k) ≤ 16
  branch_few =
      let r = branch_of at.branch k in
      let drops = concat_few 4 (drop_at (resistance_of l) (reactance_of l) at.branch k) l.phases
      (λ m. complex_few r (branch_of at.branch m) (neg_ℤ (resistance_of l k m)) (neg_ℤ (reactance_of l k m)) (pos (10 ^ 12))) in
      let all = joined_few 4 (l.phases * 4) _ (drop_list (resistance_of l) (reactance_of l) at.branch l.phases k)
      (joined_few 2 2 (complex_terms r (node_of at.first k) (pos 1) (pos 0) (pos 1)) _
      (real_few r (node_of at.first k) (pos 1) (pos 1)) (real_few r (node_of at.second k) (negsuc 0) (pos 1)))
      drops in
      omega (arith, all)

  end_few : (ns : List NodeAt) (sign : ℤ) → length (end_row l at.branch ns sign k) ≤ 8
  end_few ns sign =
      let charges = concat_few 2 (charge_at l ns k) l.phases (λ m. imaginary_few (node_of ns k) (node_of ns m) (susceptance_of l k m) (pos (2 * 10 ^ 27))) in
      let all =
      joined_few 2 (l.phases * 2) (complex_terms (node_of ns k) (branch_of at.branch k) sign (pos 0) (pos 1))
      (concat_below (charge_at l ns k) l.phases) (real_few (node_of ns k) (branch_of at.branch k) sign (pos 1))
      charges in
      omega (arith, all)

  phase_few : length (phase_list l at k) ≤ 32
  phase_few =
      joined_few 16 16 (branch_row l at k) _ branch_few (joined_few 8 8 (end_row l at.branch at.first (pos 1) k) _
      (end_few at.first (pos 1)) (end_few at.second (negsuc 0)))

line_few : (l : LineData) (at : Ends) → l.phases ≤ 3 → length (line_list l at) ≤ 32 * l.phases
line_few l at h = let all = concat_few 32 (phase_list l at) l.phases (phase_few l at h) in omega (arith, all)

pub line_is : LineLaw
line_is l at = record { adds_up = line_adds_up l at; divided = line_divided l at; few = line_few l at }
