-- A whole number that fits 128 bits is read back as it is.
use Rattle.std.proofs.Common.{◌≡◌, ◌∙◌, ℕ, ◌*◌, ◌≤◌, ◌<◌, ◌^◌, ℤ, pos, neg_ℤ, ◌-ℤ◌, ◌*ℤ◌, nat_abs, ap, arith, subst, sym, to_z, of_z, FitsSigned}
use Rattle.std.specs.Int.{w128}
use Rattle.std.proofs.Math.Nat.{mul-le-mul}
use Rattle.std.proofs.lemmas.Int.{to_z-of_z, fits_signed_from_abs, ints, unsigned_abs-mul}

pub read_back : (r : ℤ) (k : ℕ) → nat_abs r ≤ k → k < 2 ^ 127 → to_z w128 (of_z w128 r) ≡ r
read_back r k h m = to_z-of_z w128 r (fits_signed_from_abs w128 r (omega arith))

-- ---- and so is its opposite

pub turned : (r : ℤ) → (pos 0 -ℤ r) ≡ neg_ℤ r
turned r = omega (arith, ints)

pub opposite_fits : (r : ℤ) (k : ℕ) → nat_abs r ≤ k → k < 2 ^ 127 → FitsSigned w128 (pos 0 -ℤ r)
opposite_fits r k h m = fits_signed_from_abs w128 (pos 0 -ℤ r) (omega (arith, ints))

pub opposite_is : (r : ℤ) (k : ℕ) → nat_abs r ≤ k → k < 2 ^ 127 → to_z w128 (of_z w128 (pos 0 -ℤ r)) ≡ neg_ℤ r
opposite_is r k h m = to_z-of_z w128 (pos 0 -ℤ r) (opposite_fits r k h m) ∙ turned r

pub size_of_opposite : (m : ℕ) → nat_abs (neg_ℤ (pos m)) ≡ m
size_of_opposite m = omega (arith, ints)

pub opposite_most : (r : ℤ) (k : ℕ) → nat_abs r ≤ k → nat_abs (neg_ℤ r) ≤ k
opposite_most r k h = omega (arith, ints)

-- ---- and so is the product of two numbers that were read back, which are at most m and n in size

module _ {a b : ℤ} (x y : ℤ) (m n : ℕ) (left : a ≡ x) (right : b ≡ y) (h : nat_abs x ≤ m) (k : nat_abs y ≤ n)
    (room : m * n < 2 ^ 127) where
  product_same : (a *ℤ b) ≡ (x *ℤ y)
  product_same = λ i. left i *ℤ right i

  pub product_most : nat_abs (x *ℤ y) ≤ m * n
  product_most = subst (λ t. t ≤ m * n) (sym (unsigned_abs-mul x y)) (mul-le-mul h k)

  product_signed : FitsSigned w128 (x *ℤ y)
  product_signed = fits_signed_from_abs w128 (x *ℤ y) (omega (arith, product_most))

  pub product_fits : FitsSigned w128 (a *ℤ b)
  product_fits = subst (FitsSigned w128) (sym product_same) product_signed

  pub product_is : to_z w128 (of_z w128 (a *ℤ b)) ≡ (x *ℤ y)
  product_is = ap (λ z. to_z w128 (of_z w128 z)) product_same ∙ to_z-of_z w128 (x *ℤ y) product_signed

  pub product_room : nat_abs (to_z w128 (of_z w128 (a *ℤ b))) ≤ m * n
  product_room = subst (λ z. nat_abs z ≤ m * n) (sym product_is) product_most
