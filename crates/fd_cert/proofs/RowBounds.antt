-- The bound of a row from the sums of its columns.
use Rattle.std.proofs.Common.{◌≡◌, ◌∙◌, ℕ, zero, suc, ◌+◌, ◌*◌, ◌<◌, ◌≤◌, ◌^◌, ℤ, pos, negsuc, ◌+ℤ◌, ◌*ℤ◌, ◌≤ℤ◌, nat_abs, Bool, true, false, cond, List, length, Option, Some, None, IfSome, arith, ap, sym, subst}
use Rattle.std.specs.Int.RustNames.{unsigned_abs}
use Rattle.std.proofs.lemmas.Int.{ints}
use Rattle.fd_enclosure.specs.fd_exact.Quotients.{ceil_nat_is}
use Rattle.fd_enclosure.specs.fd_exact.Rounding.{ceil_nat}
use Rattle.fd_enclosure.specs.fd_exact.States.{part}
use Rattle.fd_enclosure.specs.fd_exact.Sums.{sum_n}
use Rattle.fd_enclosure.specs.Sound.{number_at}
use Rattle.fd_enclosure.specs.fd_arith.Limits.{fits, within}
use Rattle.fd_enclosure.specs.fd_arith.Wide.{wide_difference, wide_product, wide_quotient, wide_size, wide_sum}
use Rattle.fd_enclosure.specs.Bounds.{added_at, bound_at, left_at, left_over, unit_at, wide_sums}
use Rattle.fd_enclosure.specs.fd_equations.Rounded.{list_of}
use Rattle.fd_enclosure.proofs.CallerLemmas.fd_equations.{get_or-list_of, length-list_of}
use Rattle.fd_cert.specs.Columns.{AreWeights, HasWeights, column_sum}
use Rattle.fd_cert.specs.Reaches.{AreBounds, bound_in}
use Rattle.fd_cert.specs.Totals.{AreWeighted, left_total}
use Rattle.fd_cert.proofs.RowTotals.{total_is}
use Rattle.fd_cert.proofs.Units.{sums_past}

-- ---- signs

abbrev IsPositive : Option ℤ → Type 0
IsPositive o = IfSome o (λ k. pos 0 ≤ℤ k)

positive_within : (z : ℤ) → pos 0 ≤ℤ z → IsPositive (within z)
unfolding within
positive_within z h = by_test (fits z)
  where
    by_test : (b : Bool) → IsPositive (cond b (Some z) None)
    by_test true = h
    by_test false = tt

positive_sum : (a b : Option ℤ) → IsPositive a → IsPositive b → IsPositive (wide_sum a b)
positive_sum (Some a) (Some b) h k = positive_within (a +ℤ b) (omega (arith, ints))
positive_sum (Some a) None h k = tt
positive_sum None b h k = tt

positive_product : (a : ℕ) (b : Option ℤ) → IsPositive b → IsPositive (wide_product (Some (pos a)) b)
positive_product a (Some (pos b)) h = positive_within (pos a *ℤ pos b) (omega (arith, ints))
positive_product a (Some (negsuc b)) h = absurd (omega (arith, ints))
positive_product a None h = tt

positive_size : (a : Option ℤ) → IsPositive (wide_size a)
positive_size (Some a) = positive_within (pos (unsigned_abs a)) (omega (arith, ints))
positive_size None = tt

positive_sums : (f : ℕ → Option ℤ) (n : ℕ) → ((j : ℕ) → IsPositive (f j)) → IsPositive (wide_sums f n)
positive_sums f zero h = omega (arith, ints)
positive_sums f (suc n) h = positive_sum (wide_sums f n) (f n) (positive_sums f n h) (h n)

positive_quotient : (a : Option ℤ) (d : ℕ) → 0 < d → IsPositive a → IsPositive (wide_quotient a d)
positive_quotient (Some (pos a)) d p h =
    subst (λ z. IsPositive (within z)) (sym (ceil_nat_is a d p))
    (positive_within (pos (ceil_nat a d)) (omega (arith, ints)))
positive_quotient (Some (negsuc a)) d p h = absurd (omega (arith, ints))
positive_quotient None d p h = tt

module _ (n : ℕ) (C J : ℕ → ℕ → ℤ) (R : ℕ → ℕ → ℕ) (w : ℕ → ℕ) (i : ℕ) where
  positive_left : (j : ℕ) → IsPositive (left_over n C J R w i j)
  positive_left j =
      positive_sum (left_at n C J R w i j) (added_at n C J R w i j)
      (positive_size (wide_difference (Some (unit_at i j)) (column_sum (C i) J j n)))
      (positive_sums (λ l. wide_product (Some (pos (nat_abs (C i l)))) (Some (pos (R l j)))) n (λ l.
      positive_product (nat_abs (C i l)) (Some (pos (R l j))) (omega (arith, ints))))

  -- no bound is negative
  pub bound_positive : 0 < w i → IfSome (bound_at n C J R w i) (λ k. pos 0 ≤ℤ k)
  unfolding bound_at
  bound_positive p =
      positive_quotient (wide_sums (λ j. wide_product (Some (pos (w j))) (left_over n C J R w i j)) n) (w i * 2 ^ 40)
      (omega arith) (positive_sums (λ j. wide_product (Some (pos (w j))) (left_over n C J R w i j)) n (λ j.
      positive_product (w j) (left_over n C J R w i j) (positive_left j)))

  -- ---- none

  bound_none : (j : ℕ) → j < n → left_over n C J R w i j ≡ None → bound_at n C J R w i ≡ None
  unfolding bound_at
  bound_none j l e =
      ap (λ o. wide_quotient o (w i * 2 ^ 40))
      (sums_past (λ j. wide_product (Some (pos (w j))) (left_over n C J R w i j)) n j l
      (ap (wide_product (Some (pos (w j)))) e))

  -- where the Jacobian's column passes the limit
  pub no_product : (j : ℕ) → j < n → column_sum (C i) J j n ≡ None → None ≡ bound_at n C J R w i
  no_product j l e = sym (bound_none j l (ap (λ o. wide_sum (wide_size (wide_difference (Some (unit_at i j)) o)) (added_at n C J R w i j)) e))

-- the bound of a row from its total
pub bound_is : (n : ℕ) (C J : ℕ → ℕ → ℤ) (R : ℕ → ℕ → ℕ) (w : ℕ → ℕ) (i : ℕ) (sums : List ℤ) (rows : List ℕ) (ws : List ℤ) {d : ℕ}
    → ((j : ℕ) → j < n → column_sum (C i) J j n ≡ Some (part sums j)) → AreWeighted n R w rows → HasWeights n ws w
    → ((j : ℕ) → j < n → 0 < w j) → d ≡ w i
    → wide_quotient (within (pos (left_total n i ws sums + sum_n (λ l. nat_abs (C i l) * number_at rows l) n))) (d * 2 ^ 40) ≡ bound_at n C J R w i
unfolding bound_at
bound_is n C J R w i sums rows ws column radii h p e = λ k. wide_quotient (total_is n C J R w i sums column rows radii ws h p k) (e k * 2 ^ 40)

-- a bound reads its own row of the inverse alone
pub bound_row : (n : ℕ) (C J : ℕ → ℕ → ℤ) (R : ℕ → ℕ → ℕ) (w : ℕ → ℕ) (i : ℕ) (row : List ℤ)
    → ((l : ℕ) → part row l ≡ C i l) → bound_at n (λ _. part row) J R w i ≡ bound_at n C J R w i
unfolding bound_at
bound_row n C J R w i row h = ap (λ f. bound_at n (λ _. f) J R w i) (λ k l. h l k)

-- no bound of the list is negative
pub signs_of : (n : ℕ) (C J : ℕ → ℕ → ℤ) (R : ℕ → ℕ → ℕ) (w : ℕ → ℕ) (bounds : List (Option ℤ)) (ws : List ℤ)
    → bounds ≡ list_of n (bound_at n C J R w) → AreWeights n ws → HasWeights n ws w → AreBounds bounds
signs_of n C J R w bounds ws e a h i l =
    let inside : i < n = subst (λ m. i < m) (ap length e ∙ length-list_of n (bound_at n C J R w)) l in
    let least : pos (10 ^ 6) ≤ℤ pos (w i) = subst (λ z. pos (10 ^ 6) ≤ℤ z) (h i inside) (a.least i inside) in
    let some : 0 < w i = omega (arith, ints, least) in
    subst (λ o. IfSome o (λ k. pos 0 ≤ℤ k))
    (sym (ap (λ xs. bound_in xs i) e ∙ get_or-list_of n (bound_at n C J R w) i None inside))
    (bound_positive n C J R w i some)
