-- One phase's part of a power of all phases.
use Rattle.std.proofs.Common.{◌≡◌, ◌∙◌, ℕ, ◌*◌, ◌<◌, ◌≤◌, ◌^◌, ℤ, ◌*ℤ◌, nat_abs, [], ◌∷◌, ⊎_elim, FitsSigned, to_z, of_z, arith, lit<}
use Rattle.std.specs.Int.{w128}
use Rattle.std.proofs.lemmas.Int.{to_z-of_z}
use Rattle.dss_model.specs.fd_exact.ReadBack.{read_back}
use Rattle.dss_model.specs.fd_exact.Rounding.{near_div}
use Rattle.dss_model.specs.Ranges.{IsOneOf}
use Rattle.fd_elements.proofs.Products.{quotient_is, quotient_size}

-- one or three phases
phases_some : (n : ℕ) → IsOneOf (1 ∷ 3 ∷ []) n → 1 ≤ n
phases_some n h = ⊎_elim (λ e. omega arith) (λ e. omega arith) h

phases_few : (n : ℕ) → IsOneOf (1 ∷ 3 ∷ []) n → n ≤ 3
phases_few n h = ⊎_elim (λ e. omega arith) (λ e. omega arith) h

-- the divisor
pub divisor_positive : (n : ℕ) → IsOneOf (1 ∷ 3 ∷ []) n → 0 < 10 ^ 12 * n
divisor_positive n h = omega (arith, phases_some n h)

pub divisor_most : (n : ℕ) → IsOneOf (1 ∷ 3 ∷ []) n → 10 ^ 12 * n ≤ 2 ^ 120
divisor_most n h = omega (arith, phases_few n h)

pub divisor_fits : (n : ℕ) → IsOneOf (1 ∷ 3 ∷ []) n → 10 ^ 12 * n < 2 ^ 128
divisor_fits n h = omega (arith, phases_few n h)

-- the power as the code has it
pub power_room : (p : ℤ) → nat_abs p ≤ 3 * 10 ^ 14 * 10 ^ 12 → nat_abs (to_z w128 (of_z w128 p)) ≤ 2 ^ 126
power_room p h = rw (read_back p (3 * 10 ^ 14 * 10 ^ 12) h (lit< tt)) (omega (arith, h))

module _ (total point p r : ℤ) (n : ℕ) (ft : FitsSigned w128 total) (fp : FitsSigned w128 point)
    (h : IsOneOf (1 ∷ 3 ∷ []) n) (is : p ≡ (to_z w128 (of_z w128 total) *ℤ to_z w128 (of_z w128 point)))
    (most : nat_abs p ≤ 3 * 10 ^ 14 * 10 ^ 12) (e : r ≡ near_div (to_z w128 (of_z w128 p)) (10 ^ 12 * n)) where
  power_is : p ≡ (total *ℤ point)
  power_is = is ∙ (λ i. to_z-of_z w128 total ft i *ℤ to_z-of_z w128 point fp i)

  power_most : nat_abs (total *ℤ point) ≤ 3 * 10 ^ 14 * (10 ^ 12 * n)
  power_most = rw (← power_is) (omega (arith, most, phases_some n h))

  pub phase_is : to_z w128 (of_z w128 r) ≡ near_div (total *ℤ point) (10 ^ 12 * n)
  phase_is = quotient_is (to_z w128 (of_z w128 p)) (total *ℤ point) r (10 ^ 12 * n) (3 * 10 ^ 14) (divisor_positive n h)
      (read_back p (3 * 10 ^ 14 * 10 ^ 12) most (lit< tt) ∙ power_is) power_most (lit< tt) e

  pub phase_most : nat_abs (to_z w128 (of_z w128 r)) ≤ 3 * 10 ^ 14
  phase_most = quotient_size (to_z w128 (of_z w128 p)) (total *ℤ point) r (10 ^ 12 * n) (3 * 10 ^ 14)
      (divisor_positive n h) (read_back p (3 * 10 ^ 14 * 10 ^ 12) most (lit< tt) ∙ power_is) power_most (lit< tt) e
