-- The reactive power by a power factor.
use Rattle.std.proofs.Common.{◌≡◌, ⊎_elim, FitsSigned, to_z, of_z, lit<, ◌-ℤ◌, ℕ, ◌+◌, ◌-◌, ◌*◌, ◌/◌, ◌%◌, ◌<◌, ◌≤◌, ◌^◌, ℤ, pos, negsuc, neg_ℤ, nat_abs, Bool, true, false, arith, refl, sym, subst, ap, ◌∙◌}
use Rattle.std.proofs.Math.Bool.{beq}
use lib.Signed.{lt_z}
use Rattle.std.specs.Int.{w128}
use Rattle.std.proofs.lemmas.Int.{ints, to_z-of_z, to_z_pos, fits_signed_from_abs}
use Rattle.dss_model.specs.Ranges.{IsBetween, IsPowerFactor, ones}
use Rattle.dss_model.specs.fd_exact.ReadBack.{opposite_fits, opposite_is, opposite_most}
use Rattle.dss_model.specs.fd_exact.Rounding.{signed, differ}
use Rattle.fd_elements.specs.Powers.{IsByPowerFactor, square}
use Rattle.std.proofs.lemmas.Nat.{div-add-mod'}
use Rattle.std.proofs.Math.Nat.{add-mul-div_right, div-lt_iff_lt-mul}

pub root_most : (n d r : ℕ) → 0 < d → n / d < (r + 1) * (r + 1) → n < (r + 1) * (r + 1) * d
root_most n d r h k = (div-lt_iff_lt-mul h).0 k

-- a product's quotient by the quotient and the rest of one factor
regrouped : (q m f d : ℕ) → (q * d + m) * f ≡ m * f + q * f * d
regrouped q m f d = grind arith

pub quotient_of_parts : (n f d : ℕ) → 0 < d → n / d * f + n % d * f / d ≡ n * f / d
quotient_of_parts n f d h =
    let split : n * f ≡ n % d * f + n / d * f * d = ap (λ t. t * f) (sym (div-add-mod' n d)) ∙ regrouped (n / d) (n % d) f d in
    let whole = add-mul-div_right (n % d * f) (n / d * f) h in
    let order : n / d * f + n % d * f / d ≡ n % d * f / d + n / d * f = omega arith in
    order ∙ sym (ap (λ t. t / d) split ∙ whole)

-- ---- signs

pub negative_q : (p pf : ℤ) (s : ℕ) → beq (lt_z p (pos 0)) (lt_z pf (pos 0)) ≡ false
    → neg_ℤ (pos s) ≡ signed (differ p pf) s
negative_q (pos a) (pos b) s h = grind (arith, ints)
negative_q (pos a) (negsuc b) s h = refl
negative_q (negsuc a) (pos b) s h = refl
negative_q (negsuc a) (negsuc b) s h = grind (arith, ints)

signed_size : (t : Bool) (s : ℕ) → nat_abs (signed t s) ≡ s
signed_size true s = omega (arith, ints)
signed_size false s = refl

pub by_sign : (p pf q : ℤ) (s : ℕ) → q ≡ signed (differ p pf) s → s * s * square pf ≤ square p * (10 ^ 18 - square pf)
    → square p * (10 ^ 18 - square pf) < (s + 1) * (s + 1) * square pf → IsByPowerFactor p pf q
by_sign p pf q s e l m =
    let size : nat_abs q ≡ s = ap nat_abs e ∙ signed_size (differ p pf) s in
    record {
      sign = e ∙ ap (signed (differ p pf)) (sym size);
      least = subst (λ t. t * t * square pf ≤ square p * (10 ^ 18 - square pf)) (sym size) l;
      most = subst (λ t. square p * (10 ^ 18 - square pf) < (t + 1) * (t + 1) * square pf) (sym size) m;
    }

pub positive_q : (p pf : ℤ) (s : ℕ) → beq (lt_z p (pos 0)) (lt_z pf (pos 0)) ≡ true → pos s ≡ signed (differ p pf) s
positive_q (pos a) (pos b) s h = refl
positive_q (pos a) (negsuc b) s h = grind (arith, ints)
positive_q (negsuc a) (pos b) s h = grind (arith, ints)
positive_q (negsuc a) (negsuc b) s h = refl

-- ---- the numbers that the code computes with

-- a power factor is from 10^7 to 10^9 in size
pub factor_least : (pf : ℤ) → IsPowerFactor pf → 10 ^ 7 ≤ nat_abs pf
factor_least pf h = ⊎_elim
    (λ (r : IsBetween (pos 10_000_000) (ones 1) pf). omega (arith, ints, r.least))
    (λ (r : IsBetween (neg_ℤ (ones 1)) (neg_ℤ (pos 10_000_000)) pf). omega (arith, ints, r.most))
    h

pub factor_most : (pf : ℤ) → IsPowerFactor pf → nat_abs pf ≤ 10 ^ 9
factor_most pf h = ⊎_elim
    (λ (r : IsBetween (pos 10_000_000) (ones 1) pf). omega (arith, ints, r.least, r.most))
    (λ (r : IsBetween (neg_ℤ (ones 1)) (neg_ℤ (pos 10_000_000)) pf). omega (arith, ints, r.least, r.most))
    h

-- a size that was read from the code's type
pub read_size : (z : ℤ) (s : ℕ) → FitsSigned w128 z → s ≡ nat_abs (to_z w128 (of_z w128 z)) → s ≡ nat_abs z
read_size z s f e = e ∙ ap nat_abs (to_z-of_z w128 z f)

-- the root, as a number with a sign, and its opposite
module _ (s : ℕ) (h : s ≤ 3 * 10 ^ 16) where
  pub root_fits : FitsSigned w128 (pos s)
  root_fits = fits_signed_from_abs w128 (pos s) (omega (arith, h))

  root_shown : to_z w128 s ≡ pos s
  root_shown = to_z_pos w128 s (omega (arith, h))

  pub root_small : nat_abs (to_z w128 s) ≤ 3 * 10 ^ 16
  root_small = subst (λ z. nat_abs z ≤ 3 * 10 ^ 16) (sym root_shown) h

  pub minus_fits : FitsSigned w128 (pos 0 -ℤ to_z w128 s)
  minus_fits = opposite_fits (to_z w128 s) (3 * 10 ^ 16) root_small (lit< tt)

  minus_is : to_z w128 (of_z w128 (pos 0 -ℤ to_z w128 s)) ≡ neg_ℤ (to_z w128 s)
  minus_is = opposite_is (to_z w128 s) (3 * 10 ^ 16) root_small (lit< tt)

  pub minus_small : nat_abs (to_z w128 (of_z w128 (pos 0 -ℤ to_z w128 s))) ≤ 3 * 10 ^ 16
  minus_small =
      subst (λ z. nat_abs z ≤ 3 * 10 ^ 16) (sym minus_is) (opposite_most (to_z w128 s) (3 * 10 ^ 16) root_small)

module _ (p pf : ℤ) (s a b : ℕ) (f : FitsSigned w128 p) (g : FitsSigned w128 pf)
    (u : a ≡ nat_abs (to_z w128 (of_z w128 p))) (v : b ≡ nat_abs (to_z w128 (of_z w128 pf)))
    (l : s * s * (b * b) ≤ a * a * (10 ^ 18 - b * b)) (m : a * a * (10 ^ 18 - b * b) < (s + 1) * (s + 1) * (b * b))
    (small : s ≤ 3 * 10 ^ 16) where
  least : s * s * square pf ≤ square p * (10 ^ 18 - square pf)
  least =
      subst (λ t. s * s * square pf ≤ t * t * (10 ^ 18 - square pf)) (read_size p a f u)
      (subst (λ t. s * s * (t * t) ≤ a * a * (10 ^ 18 - t * t)) (read_size pf b g v) l)

  more : square p * (10 ^ 18 - square pf) < (s + 1) * (s + 1) * square pf
  more =
      subst (λ t. t * t * (10 ^ 18 - square pf) < (s + 1) * (s + 1) * square pf) (read_size p a f u)
      (subst (λ t. a * a * (10 ^ 18 - t * t) < (s + 1) * (s + 1) * (t * t)) (read_size pf b g v) m)

  test : (t : Bool) → beq (lt_z (to_z w128 (of_z w128 p)) (pos 0)) (lt_z (to_z w128 (of_z w128 pf)) (pos 0)) ≡ t
      → beq (lt_z p (pos 0)) (lt_z pf (pos 0)) ≡ t
  test t e = sym (λ i. beq (lt_z (to_z-of_z w128 p f i) (pos 0)) (lt_z (to_z-of_z w128 pf g i) (pos 0))) ∙ e

  pub root_is : beq (lt_z (to_z w128 (of_z w128 p)) (pos 0)) (lt_z (to_z w128 (of_z w128 pf)) (pos 0)) ≡ true
      → IsByPowerFactor p pf (to_z w128 s)
  root_is e = by_sign p pf _ s (root_shown s small ∙ positive_q p pf s (test true e)) least more

  pub minus_root_is : beq (lt_z (to_z w128 (of_z w128 p)) (pos 0)) (lt_z (to_z w128 (of_z w128 pf)) (pos 0)) ≡ false
      → IsByPowerFactor p pf (to_z w128 (of_z w128 (pos 0 -ℤ to_z w128 s)))
  minus_root_is e =
      by_sign p pf _ s (minus_is s small ∙ ap neg_ℤ (root_shown s small) ∙ negative_q p pf s (test false e)) least more
