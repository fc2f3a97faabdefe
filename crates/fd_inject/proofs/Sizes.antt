-- Sizes of entries, of products and of sums.
use Rattle.std.proofs.Common.{◌≡◌, ◌∙◌, ℕ, ◌+◌, ◌*◌, ◌<◌, ◌≤◌, ◌^◌, ℤ, pos, neg_ℤ, ◌+ℤ◌, ◌-ℤ◌, ◌*ℤ◌, nat_abs, to_z, of_z, arith}
use Rattle.std.specs.Int.{w128}
use Rattle.std.proofs.Math.Nat.{mul-le-mul}
use Rattle.std.proofs.lemmas.Int.{ints, unsigned_abs-mul, to_z-of_z, fits_signed_from_abs}

-- a number below 2^127 is what an i128 keeps of it
pub kept_by : (z : ℤ) → nat_abs z ≤ 2 ^ 126 → to_z w128 (of_z w128 z) ≡ z
kept_by z h = to_z-of_z w128 z (fits_signed_from_abs w128 z (omega arith))

pub product_size : (a b : ℤ) → nat_abs a ≤ 2 ^ 56 → nat_abs b ≤ 2 ^ 58 → nat_abs (a *ℤ b) ≤ 2 ^ 114
product_size a b h k = let e = unsigned_abs-mul a b in let m = mul-le-mul h k in omega arith

pub sum_size : (a b : ℤ) (k : ℕ) → nat_abs a ≤ k * 2 ^ 114 → nat_abs b ≤ 2 ^ 114 → nat_abs (a +ℤ b) ≤ (k + 1) * 2 ^ 114
sum_size a b k h j = omega (arith, ints)

-- a sum that grows by one product
pub sum_kept : (s p : ℤ) (k : ℕ) → nat_abs s ≤ k * 2 ^ 114 → k < 2 ^ 11 → nat_abs p ≤ 2 ^ 114
    → to_z w128 (of_z w128 (s +ℤ to_z w128 (of_z w128 p))) ≡ (s +ℤ p)
sum_kept s p k h few j = rw (kept_by p (omega arith)) (kept_by (s +ℤ p) (omega (arith, sum_size s p k h j)))

pub added_kept : (a b : ℤ) → nat_abs a ≤ 2 ^ 40 → nat_abs b ≤ 2 ^ 86
    → to_z w128 (of_z w128 (to_z w128 (of_z w128 a) +ℤ to_z w128 (of_z w128 b))) ≡ (a +ℤ b)
added_kept a b h k = rw (kept_by a (omega arith), kept_by b (omega arith)) (kept_by (a +ℤ b) (omega (arith, ints)))

pub negated_kept : (a : ℤ) → nat_abs a ≤ 2 ^ 86 → to_z w128 (of_z w128 (pos 0 -ℤ to_z w128 (of_z w128 a))) ≡ neg_ℤ a
negated_kept a h = rw (kept_by a (omega arith)) (kept_by (pos 0 -ℤ a) (omega (arith, ints)) ∙ less a)
  where
    less : (a : ℤ) → (pos 0 -ℤ a) ≡ neg_ℤ a
    less a = omega (arith, ints)

pub negated_size : (a : ℤ) → nat_abs a ≤ 2 ^ 86 → nat_abs (neg_ℤ a) ≤ 2 ^ 86
negated_size a h = omega (arith, ints)
