-- Sums of a few numbers of 128 bits.
use Rattle.std.proofs.Common.{◌≡◌, ◌∙◌, ℕ, zero, suc, ◌+◌, ◌*◌, ◌≤◌, ◌<◌, ◌^◌, ℤ, ◌+ℤ◌, nat_abs, FitsSigned, to_z, of_z, ap, sym, arith}
use Rattle.std.specs.Int.{w128}
use Rattle.std.proofs.lemmas.Int.{ints}
use Rattle.fd_pattern.specs.fd_load.fd_exact.Sums.{sum_z}
pub use Rattle.fd_pattern.proofs.CallerLemmas.{kept_by}

fits_by : (z : ℤ) → nat_abs z ≤ 2 ^ 126 → FitsSigned w128 z
fits_by z h = omega (arith, ints, h)

module _ (m : ℕ) (a d : ℤ) (few : m < 3) (low : nat_abs a ≤ m * 2 ^ 103) (small : nat_abs d ≤ 2 ^ 103) where
  held : to_z w128 (of_z w128 d) ≡ d
  held = kept_by d (omega (arith, small))

  most : nat_abs (a +ℤ d) ≤ (m + 1) * 2 ^ 103
  most = omega (arith, ints, low, small)

  within : nat_abs (a +ℤ d) ≤ 2 ^ 126
  within = omega (arith, most, few)

  pub sum_fits : FitsSigned w128 (a +ℤ to_z w128 (of_z w128 d))
  sum_fits = rw held (fits_by (a +ℤ d) within)

  sum_held : to_z w128 (of_z w128 (a +ℤ to_z w128 (of_z w128 d))) ≡ (a +ℤ d)
  sum_held = ap (λ y. to_z w128 (of_z w128 (a +ℤ y))) held ∙ kept_by (a +ℤ d) within

  pub sum_small : nat_abs (to_z w128 (of_z w128 (a +ℤ to_z w128 (of_z w128 d)))) ≤ (m + 1) * 2 ^ 103
  sum_small = rw sum_held most

next_sum : (f : ℕ → ℤ) (m : ℕ) → sum_z f (suc m) ≡ sum_z f (m + 1)
next_sum f m = let next : suc m ≡ m + 1 = omega arith in ap (sum_z f) next

pub sum_value : (f : ℕ → ℤ) (m : ℕ) (a d : ℤ) → m < 3 → nat_abs a ≤ m * 2 ^ 103 → nat_abs d ≤ 2 ^ 103 → a ≡ sum_z f m
    → d ≡ f m → to_z w128 (of_z w128 (a +ℤ to_z w128 (of_z w128 d))) ≡ sum_z f (m + 1)
sum_value f m a d few low small so_far here =
    sum_held m a d few low small
    ∙ (λ i. so_far i +ℤ here i)
    ∙ next_sum f m
