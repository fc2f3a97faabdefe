-- The bound of a certificate, and its radii: whole numbers made of an inverse, a Jacobian, radii of slopes, weights and mismatches.
use Rattle.std.specs.Prelude.{ℕ, zero, suc, ◌*◌, ◌-◌, ◌^◌, ℤ, pos, nat_abs, nat_le, nat_lt, int_lt, not, Bool, false, cond, eqb, Option, Some, None}
use Rattle.fd_equations.specs.fd_exact.First.{first_place}
use Rattle.fd_equations.specs.fd_exact.Greatest.{greatest}
use Rattle.fd_equations.specs.fd_exact.Rounding.{ceil_nat}
use Rattle.fd_equations.specs.fd_exact.Sums.{sum_n}
use Rattle.fd_slope.specs.fd_arith.Wide.{wide_difference, wide_product, wide_quotient, wide_size, wide_sum}

-- f 0 + .. + f (n - 1) in rising order; none where a summand is none, or a partial sum passes 2^120
abbrev pub wide_sums : (ℕ → Option ℤ) → ℕ → Option ℤ
wide_sums f zero = Some (pos 0)
wide_sums f (suc n) = wide_sum (wide_sums f n) (f n)

-- the unit matrix in units of 2^-80
abbrev pub unit_at : ℕ → ℕ → ℤ
unit_at i j = cond (eqb i j) (pos (2 ^ 80)) (pos 0)

-- below one, in units of 2^-40
abbrev pub is_below_one : Option ℤ → Bool
is_below_one None = false
is_below_one (Some k) = int_lt k (pos (2 ^ 40))

-- a bound of a row; one that is none reaches one
abbrev pub bound_size : Option ℤ → ℕ
bound_size None = 2 ^ 40
bound_size (Some k) = nat_abs k

-- an inverse C, a Jacobian J and radii R of its entries in units of 2^-40, and a weight for each of n unknowns
module _ (n : ℕ) (C J : ℕ → ℕ → ℤ) (R : ℕ → ℕ → ℕ) (w : ℕ → ℕ) where
  -- ---- how far C J is from the unit matrix, anywhere in the box

  -- what the centre's Jacobian leaves of the unit matrix
  abbrev pub left_at : ℕ → ℕ → Option ℤ
  left_at i j = wide_size (wide_difference (Some (unit_at i j)) (wide_sums (λ l. wide_product (Some (C i l)) (Some (J l j))) n))

  -- what the radii of slopes add
  abbrev pub added_at : ℕ → ℕ → Option ℤ
  added_at i j = wide_sums (λ l. wide_product (Some (pos (nat_abs (C i l)))) (Some (pos (R l j)))) n

  abbrev pub left_over : ℕ → ℕ → Option ℤ
  left_over i j = wide_sum (left_at i j) (added_at i j)

  -- the weighted sum of row i over its own weight, rounded up, in units of 2^-40: none is what passes 2^120 on the way
  unfoldable pub bound_at : ℕ → Option ℤ
  bound_at i = wide_quotient (wide_sums (λ j. wide_product (Some (pos (w j))) (left_over i j)) n) (w i * 2 ^ 40)

  abbrev pub is_bounded : ℕ → Bool
  is_bounded i = is_below_one (bound_at i)

  -- the greatest of all rows
  abbrev pub bound_of : ℕ
  bound_of = greatest (λ i. bound_size (bound_at i)) n

  -- ---- radii, for a mismatch of each row

  module _ (e : ℕ → ℕ) where
    -- how far two states that meet the mismatches may be apart, as the inverse says it, over the weight, in units of 2^-60, rounded up
    abbrev pub reach_at : ℕ → ℕ
    reach_at i = ceil_nat (sum_n (λ l. nat_abs (C i l) * (2 * e l)) n * 2 ^ 20) (w i)

    abbrev pub reach_of : ℕ
    reach_of = greatest reach_at n

    -- the radius of unknown i, in whole micro-units
    unfoldable pub radius_at : ℕ → ℕ
    radius_at i = ceil_nat (w i * reach_of) (2 ^ 20 * (2 ^ 40 - bound_of))

    -- ---- where there is no certificate

    -- the bound of a row as a refusal names it: none besides where the product of a radius passes 2^120
    abbrev pub refused_bound : ℕ → Option ℤ
    refused_bound i = cond (nat_le (w i * reach_of) (2 ^ 120)) (bound_at i) None

    -- the first row whose bound reaches one
    abbrev pub first_unbounded : Option ℕ
    first_unbounded = first_place (λ i. not (is_below_one (refused_bound i))) n

    -- the first unknown whose radius passes 2^40
    abbrev pub first_wide : Option ℕ
    first_wide = first_place (λ i. nat_lt (2 ^ 40) (radius_at i)) n

    abbrev pub no_bound : ℕ → ℕ × Option ℤ
    no_bound i = (i, None)

    abbrev pub unless_wide : Option ℕ → Option (ℕ × Option ℤ)
    unless_wide None = None
    unless_wide (Some i) = Some (no_bound i)

    abbrev pub unless_unbounded : Option ℕ → Option (ℕ × Option ℤ)
    unless_unbounded None = unless_wide first_wide
    unless_unbounded (Some i) = Some (i, refused_bound i)

    -- The unknown at which a certificate is refused, with its bound: the first row whose bound reaches one; where there is none, the first
    -- unknown whose radius is too wide, with no bound.
    unfoldable pub refusal : Option (ℕ × Option ℤ)
    refusal = unless_unbounded first_unbounded
