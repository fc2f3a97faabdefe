-- Sizes of parts, of entries and of their products.
use Rattle.std.proofs.Common.{◌≡◌, ℕ, ◌≤◌, ◌^◌, ℤ, pos, neg_ℤ, ◌+ℤ◌, ◌-ℤ◌, ◌*ℤ◌, nat_abs, to_z, of_z, ◌∙◌, arith, lit<}
use Rattle.std.specs.Int.{w128}
use Rattle.std.proofs.Math.Nat.{mul-le-mul}
use Rattle.std.proofs.lemmas.Bool.{leb-true}
use Rattle.std.proofs.lemmas.Int.{ints, unsigned_abs-mul}
use Rattle.fd_mat.specs.fd_exact.Rounding.{near_div}
use Rattle.fd_mat.specs.fd_exact.Nearest.{near_nearest}
use Rattle.fd_pattern.specs.fd_system.Contributions.{AreSmall}
use Rattle.fd_pattern.specs.Conditions.{IsPart}
pub use Rattle.fd_pattern.proofs.CallerLemmas.{kept_by}

pub near_size : (z : ℤ) → nat_abs z ≤ 2 ^ 94 → nat_abs (near_div z (2 ^ 40)) ≤ 2 ^ 54
near_size z h = let n = near_nearest z (2 ^ 40) (lit< tt) in omega (arith, ints, n.close)

pub small_size : (z : ℤ) → AreSmall z → nat_abs z ≤ 2 ^ 54
small_size z h = leb-true (nat_abs z) (2 ^ 54) h

pub part_size : (z : ℤ) → IsPart z → nat_abs z ≤ 2 ^ 40
part_size z h = omega (arith, ints, h.0, h.1)

pub product_size : (u z : ℤ) → nat_abs u ≤ 2 ^ 54 → nat_abs z ≤ 2 ^ 40 → nat_abs (u *ℤ z) ≤ 2 ^ 94
product_size u z h k = let e = unsigned_abs-mul u z in let b = mul-le-mul h k in omega arith

pub kept_more : (a b : ℤ) → nat_abs a ≤ 2 ^ 120 → nat_abs b ≤ 2 ^ 54 → to_z w128 (of_z w128 (a +ℤ to_z w128 (of_z w128 b))) ≡ (a +ℤ b)
kept_more a b h k = rw (kept_by b (omega arith)) (kept_by (a +ℤ b) (omega (arith, ints)))

pub natural_kept : (n : ℕ) → n ≤ 2 ^ 66 → to_z w128 n ≡ pos n
natural_kept n h = omega (arith, ints)

pub negated_kept : (a : ℤ) → nat_abs a ≤ 2 ^ 120 → to_z w128 (of_z w128 (pos 0 -ℤ to_z w128 (of_z w128 a))) ≡ neg_ℤ a
negated_kept a h = rw (kept_by a (omega arith)) (kept_by (pos 0 -ℤ a) (omega (arith, ints)) ∙ less a)
  where
    less : (a : ℤ) → (pos 0 -ℤ a) ≡ neg_ℤ a
    less a = omega (arith, ints)
