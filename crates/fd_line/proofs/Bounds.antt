-- Bounds of the products that a line's data give.
use Rattle.std.proofs.Common.{◌≡◌, ◌∙◌, ℕ, ◌*◌, ◌<◌, ◌≤◌, ◌^◌, ℤ, pos, ◌*ℤ◌, ◌≤ℤ◌, nat_abs, FitsSigned, to_z, of_z, arith, ap, sym, subst}
use Rattle.std.specs.Int.{w128}
use Rattle.std.proofs.Math.Nat.{mul-le-mul, mul-le-mul_left, mul-pos, mul_assoc, mul_left_comm}
use Rattle.std.proofs.lemmas.Int.{ints, to_z-of_z, fits_signed_from_abs}
use Rattle.fd_system.specs.fd_exact.Rounding.{floor_div}

regrouped : (q over grid code : ℕ) → q * (over * (grid * code)) ≡ q * grid * (over * code)
regrouped q over grid code = ap (λ t. q * t) (mul_left_comm over grid code) ∙ sym (mul_assoc q grid (over * code))

-- an entry times the length and the unit, over the divisor of a line
pub along_most : (n f over grid code q : ℕ) → n ≤ over * 10 ^ 15 → f ≤ 16093440 * 10 ^ 15 → 100 ≤ code
    → 16093440 * 10 ^ 28 ≤ q * grid → n * f ≤ q * (over * (grid * code))
along_most n f over grid code q h j k m =
    let p : n * f ≤ over * 10 ^ 15 * (16093440 * 10 ^ 15) = mul-le-mul h j in
    let s : over * 100 ≤ over * code = mul-le-mul_left over k in
    let t : 16093440 * 10 ^ 28 * (over * 100) ≤ q * grid * (over * code) = mul-le-mul m s in
    subst (λ z. n * f ≤ z) (sym (regrouped q over grid code)) (omega arith)

-- the length as the code has it
length_read : (z : ℤ) → pos 0 ≤ℤ z → z ≤ℤ pos (10 ^ 15) → to_z w128 (of_z w128 z) ≡ z
length_read z l h = to_z-of_z w128 z (fits_signed_from_abs w128 z (omega (arith, ints)))

length_most : (z : ℤ) → pos 0 ≤ℤ z → z ≤ℤ pos (10 ^ 15) → nat_abs z ≤ 10 ^ 15
length_most z l h = omega (arith, ints)

-- the divisor
module _ (over grid code : ℕ) (some : 1 ≤ over) (few : over ≤ 3) (least : 10 ^ 6 ≤ grid) (most : grid ≤ 10 ^ 12)
    (low : 100 ≤ code) (high : code ≤ 16093440) where
  unit_most : grid * code ≤ 10 ^ 12 * 16093440
  unit_most = mul-le-mul most high

  pub unit_fits : grid * code < 2 ^ 128
  unit_fits = omega (arith, unit_most)

  whole : over * (grid * code) ≤ 3 * (10 ^ 12 * 16093440)
  whole = mul-le-mul few unit_most

  pub divisor_fits : over * (grid * code) < 2 ^ 128
  divisor_fits = omega (arith, whole)

  pub divisor_most : over * (grid * code) ≤ 2 ^ 126
  divisor_most = omega (arith, whole)

  pub divisor_positive : 0 < over * (grid * code)
  divisor_positive = mul-pos (omega arith) (mul-pos (omega arith) (omega arith))

-- the entry times the length and the unit
module _ (top length : ℤ) (size unit over : ℕ) (f : FitsSigned w128 top) (l : pos 0 ≤ℤ length)
    (h : length ≤ℤ pos (10 ^ 15)) (is : size ≡ nat_abs (to_z w128 (of_z w128 length))) (high : unit ≤ 16093440)
    (few : over ≤ 3) (small : nat_abs top ≤ over * 10 ^ 15) where
  size_is : size ≡ nat_abs length
  size_is = is ∙ ap nat_abs (length_read length l h)

  size_most : size ≤ 10 ^ 15
  size_most = subst (λ n. n ≤ 10 ^ 15) (sym size_is) (length_most length l h)

  product_most : size * unit ≤ 10 ^ 15 * 16093440
  product_most = mul-le-mul size_most high

  pub factor_fits : size * unit < 2 ^ 128
  factor_fits = omega (arith, product_most)

  factor_most : size * unit ≤ 16093440 * 10 ^ 15
  factor_most = omega (arith, product_most)

  top_most : nat_abs top ≤ 3 * 10 ^ 15
  top_most = omega arith

  along_room : nat_abs top * (size * unit) ≤ 3 * 10 ^ 15 * (10 ^ 15 * 16093440)
  along_room = mul-le-mul top_most product_most

  pub product_fits : nat_abs (to_z w128 (of_z w128 top)) * (size * unit) ≤ 2 ^ 126
  product_fits =
      subst (λ z. nat_abs z * (size * unit) ≤ 2 ^ 126) (sym (to_z-of_z w128 top f)) (omega (arith, along_room))

  module _ (grid code : ℕ) (r : ℤ) (g : FitsSigned w128 r) (low : 100 ≤ code)
      (e : r ≡ floor_div (to_z w128 (of_z w128 top) *ℤ pos (size * unit)) (over * (grid * code)))
      (w : (q : ℕ) → nat_abs (to_z w128 (of_z w128 top)) * (size * unit) ≤ q * (over * (grid * code))
      → nat_abs r ≤ q) where
    pub along_is : to_z w128 (of_z w128 r) ≡ floor_div (top *ℤ pos (nat_abs length * unit)) (over * (grid * code))
    along_is =
        to_z-of_z w128 r g
        ∙ e
        ∙ (λ i. floor_div (to_z-of_z w128 top f i *ℤ pos (size_is i * unit)) (over * (grid * code)))

    pub along_within : (q : ℕ) → 16093440 * 10 ^ 28 ≤ q * grid → nat_abs (to_z w128 (of_z w128 r)) ≤ q
    along_within q h =
        let most = along_most (nat_abs top) (size * unit) over grid code q small factor_most low h in
        let read = subst (λ z. nat_abs z * (size * unit) ≤ q * (over * (grid * code)))
        (sym (to_z-of_z w128 top f)) most in
        subst (λ z. nat_abs z ≤ q) (sym (to_z-of_z w128 r g)) (w q read)
