-- The change of contributions.
use Rattle.std.proofs.Common.{◌≡◌, ◌∙◌, ℕ, ◌*◌, ◌<◌, ◌≤◌, ◌^◌, ℤ, pos, ◌-ℤ◌, ◌*ℤ◌, Bool, true, false, cond, eqb, ◌&&◌, List, [], ◌∷◌, arith, ap, refl, subst, sym}
use Rattle.std.specs.List.{All}
use Rattle.std.specs.Int.RustNames.{unsigned_abs}
use Rattle.std.proofs.Math.Nat.{mul-le-mul_left}
use Rattle.std.proofs.lemmas.Int.{unsigned_abs-mul}
use Rattle.fd_equations.specs.fd_exact.Fractions.{Near, fraction, minus, nothing}
use Rattle.fd_equations.specs.fd_exact.Integers.{as_val, vals, val-same}
use Rattle.fd_equations.specs.fd_exact.Nearest.{near_nearest}
use Rattle.fd_equations.specs.fd_exact.States.{State, away, part}
use Rattle.fd_equations.specs.fd_exact.Sums.{list_n}
use Rattle.fd_slope.specs.fd_arith.declared.terms.Term.{Term}
use Rattle.fd_slope.specs.fd_system.Contributions.{given, row_sum, value_of, term_units}
use Rattle.fd_slope.specs.fd_system.Residual.{whole_state}
use Rattle.fd_equations.specs.fd_pattern.Coefficients.{count_at, linear_entry, stands_at}
use Rattle.fd_enclosure.proofs.Rows.{RowNear, row_list, row_more, row_single, row_still}

-- ---- one contribution

-- what a contribution num / D changes, where s is a number of units and k of them are one
value_change : (num p q s : ℤ) (D d k : ℕ)
    → (((((num *ℤ p) *ℤ pos (D * 1)) -ℤ ((num *ℤ q) *ℤ pos (D * d))) *ℤ pos (d * k)) -ℤ ((s *ℤ (p -ℤ (pos d *ℤ q))) *ℤ pos (D * d * (D * 1))))
    ≡ (((p -ℤ (pos d *ℤ q)) *ℤ ((num *ℤ pos k) -ℤ (s *ℤ pos D))) *ℤ pos (D * d))
value_change num p q s D d k = rw (as_val num, as_val p, as_val q, as_val s) (simp vals (val-same _ _ _ _ (omega arith)))

sized : (y r D d : ℕ) → 2 * r ≤ D → (y * r) * (D * d) ≤ 4 * y * (D * d * (D * 1))
sized y r D d close = omega (arith, mul-le-mul_left (y * (D * d)) close)

value_near : (num p q s : ℤ) (D d k : ℕ) → 2 * unsigned_abs ((num *ℤ pos k) -ℤ (s *ℤ pos D)) ≤ D
    → Near (minus (fraction (num *ℤ p) (D * d)) (fraction (num *ℤ q) (D * 1))) (s *ℤ (p -ℤ (pos d *ℤ q))) (4 * unsigned_abs (p -ℤ (pos d *ℤ q))) (d * k)
value_near num p q s D d k close =
    let y : ℤ = p -ℤ (pos d *ℤ q) in
    let r : ℤ = (num *ℤ pos k) -ℤ (s *ℤ pos D) in
    let e = ap unsigned_abs (value_change num p q s D d k) ∙ unsigned_abs-mul (y *ℤ r) (pos (D * d)) ∙ ap (λ n. n * (D * d)) (unsigned_abs-mul y r) in
    subst (λ n. n ≤ 4 * unsigned_abs y * (D * d * (D * 1))) (sym e) (sized (unsigned_abs y) (unsigned_abs r) D d close)

module _ (c : List ℤ) (x : State) (n l : ℕ) where
  one_unit : (t : Bool) → cond t 4 0 ≤ 4 * cond t 1 0
  one_unit true = omega arith
  one_unit false = omega arith

  by_row : (b : Bool) (t : Term) → 0 < unsigned_abs t.den → t.col < n
      → RowNear (away c x) n (x.over * 2 ^ 40) (cond b (value_of t x) nothing) (cond b (value_of t (whole_state c)) nothing)
      (λ j. cond (b && eqb t.col j) (term_units t) (pos 0)) (λ j. 4 * cond (b && eqb t.col j) 1 0)
  by_row true t h g =
      row_more (away c x) n (x.over * 2 ^ 40) (value_of t x) (value_of t (whole_state c))
      (λ j. cond (eqb t.col j) (term_units t) (pos 0)) (λ j. cond (eqb t.col j) (term_units t) (pos 0))
      (λ j. cond (eqb t.col j) 4 0) (λ j. 4 * cond (eqb t.col j) 1 0) (λ j p. refl) (λ j p. one_unit (eqb t.col j))
      (row_single (away c x) n (x.over * 2 ^ 40) (value_of t x) (value_of t (whole_state c)) (term_units t) 4 t.col g
      (value_near t.num (part x.parts t.col) (part c t.col) (term_units t) (unsigned_abs t.den) x.over (2 ^ 40)
      (near_nearest (t.num *ℤ pos (2 ^ 40)) (unsigned_abs t.den) h).close))
  by_row false t h g =
      row_more (away c x) n (x.over * 2 ^ 40) nothing nothing (λ j. pos 0) (λ j. pos 0) (λ j. 0) (λ j. 4 * 0)
      (λ j p. refl) (λ j p. omega arith) (row_still (away c x) n (x.over * 2 ^ 40) nothing)

  pub term_near : (t : Term) → 0 < unsigned_abs t.den → t.col < n
      → RowNear (away c x) n (x.over * 2 ^ 40) (given l t x) (given l t (whole_state c))
      (λ j. cond (stands_at l j t) (term_units t) (pos 0)) (λ j. 4 * cond (stands_at l j t) 1 0)
  term_near t h g = by_row (eqb t.row l) t h g

  -- ---- all of them

  count_four : (j : ℕ) (ts : List Term) → list_n (λ t. 4 * cond (stands_at l j t) 1 0) ts ≤ 4 * count_at ts l j
  count_four j [] = omega arith
  count_four j (t ∷ ts) = omega (arith, count_four j ts)

  pub terms_near : {P : Term → Type 0} (ts : List Term) → All P ts
      → ((t : Term) → P t → (0 < unsigned_abs t.den) × (t.col < n))
      → RowNear (away c x) n (x.over * 2 ^ 40) (row_sum l ts x) (row_sum l ts (whole_state c)) (λ j. linear_entry ts l j) (λ j. 4 * count_at ts l j)
  terms_near {P} ts all h =
      row_more (away c x) n (x.over * 2 ^ 40) (row_sum l ts x) (row_sum l ts (whole_state c))
      (λ j. linear_entry ts l j) (λ j. linear_entry ts l j) (λ j. list_n (λ t. 4 * cond (stands_at l j t) 1 0) ts)
      (λ j. 4 * count_at ts l j) (λ j p. refl) (λ j p. count_four j ts)
      (row_list (away c x) n (x.over * 2 ^ 40) P (λ t. given l t x) (λ t. given l t (whole_state c))
      (λ t j. cond (stands_at l j t) (term_units t) (pos 0)) (λ t j. 4 * cond (stands_at l j t) 1 0) ts all (λ t p.
      let g = h t p in term_near t g.0 g.1))
