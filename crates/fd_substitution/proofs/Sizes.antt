-- Sizes of sums and of what is made of them.
use Rattle.std.proofs.Common.{◌≡◌, ◌∙◌, ◌<◌, ◌≤◌, ◌^◌, ℤ, pos, neg_ℤ, ◌+ℤ◌, ◌-ℤ◌, ◌*ℤ◌, nat_abs, nat_le, true, false, arith, ap, FitsSigned}
use Rattle.std.proofs.Math.Nat.{mul-le-mul}
use Rattle.std.proofs.lemmas.Int.{ints, fits_signed_from_abs, unsigned_abs-mul}
use Rattle.std.specs.Int.{w64, w128}
use Rattle.fd_triangles.specs.fd_derived.fd_factors.fd_exact.Integers.{abs_add, abs_sub}
use Rattle.fd_triangles.specs.fd_derived.fd_factors.fd_exact.Nearest.{near-neg, near_within}
use Rattle.fd_triangles.specs.fd_derived.fd_factors.fd_exact.Rounding.{near_div}
pub use Rattle.fd_triangles.specs.fd_derived.fd_factors.fd_exact.Nearest.{near_over_size}

low : (u : ℤ) → FitsSigned w64 u → nat_abs u ≤ 2 ^ 63
low u fits = omega (arith, ints, fits)

-- ---- products of two numbers of 64 bits

pub product_low : (u x : ℤ) → FitsSigned w64 u → FitsSigned w64 x → nat_abs (u *ℤ x) ≤ 2 ^ 126
product_low u x fu fx =
    let m = unsigned_abs-mul u x in
    let p = mul-le-mul (low u fu) (low x fx) in
    omega arith

pub product_fits : (u x : ℤ) → FitsSigned w64 u → FitsSigned w64 x → FitsSigned w128 (u *ℤ x)
product_fits u x fu fx = let p = product_low u x fu fx in fits_signed_from_abs w128 (u *ℤ x) (omega arith)

pub difference_fits : (z u x : ℤ) → nat_abs z ≤ 2 ^ 120 → FitsSigned w64 u → FitsSigned w64 x
    → FitsSigned w128 (z -ℤ u *ℤ x)
difference_fits z u x h fu fx =
    let p = product_low u x fu fx in
    let s = abs_sub z (u *ℤ x) in
    fits_signed_from_abs w128 (z -ℤ u *ℤ x) (omega arith)

-- ---- numbers

pub fine_low : (b : ℤ) → nat_abs b ≤ 2 ^ 42 → nat_abs (pos (2 ^ 20) *ℤ b) ≤ 2 ^ 62
fine_low b h = let m = unsigned_abs-mul (pos (2 ^ 20)) b in omega arith

pub scaled_low : (y : ℤ) → FitsSigned w64 y → nat_abs (pos (2 ^ 40) *ℤ y) ≤ 2 ^ 103
scaled_low y f = let m = unsigned_abs-mul (pos (2 ^ 40)) y in let l = low y f in omega arith

pub fine_fits : (b : ℤ) → nat_abs b ≤ 2 ^ 42 → FitsSigned w128 (pos (2 ^ 20) *ℤ b)
fine_fits b h = let l = fine_low b h in fits_signed_from_abs w128 (pos (2 ^ 20) *ℤ b) (omega arith)

pub scaled_fits : (y : ℤ) → FitsSigned w64 y → FitsSigned w128 (pos (2 ^ 40) *ℤ y)
scaled_fits y f = let l = scaled_low y f in fits_signed_from_abs w128 (pos (2 ^ 40) *ℤ y) (omega arith)

pub quotient_low : (z : ℤ) → nat_abs z ≤ 2 ^ 120 → nat_abs (near_div z (2 ^ 40)) ≤ 2 ^ 80
quotient_low z h = near_within z (2 ^ 40) (2 ^ 80) (omega arith) (omega (arith, h))

pub made_fits : (b z : ℤ) → nat_abs b ≤ 2 ^ 42 → nat_abs z ≤ 2 ^ 120
    → FitsSigned w128 (pos (2 ^ 20) *ℤ b +ℤ near_div z (2 ^ 40))
made_fits b z hb hz =
    let l = fine_low b hb in
    let q = quotient_low z hz in
    let s = abs_add (pos (2 ^ 20) *ℤ b) (near_div z (2 ^ 40)) in
    fits_signed_from_abs w128 (pos (2 ^ 20) *ℤ b +ℤ near_div z (2 ^ 40)) (omega arith)

-- a sum with the other sign
pub near_turned : (a w : ℤ) (z : ℤ) → z ≡ pos 0 -ℤ w → a +ℤ near_div z (2 ^ 40) ≡ a -ℤ near_div w (2 ^ 40)
near_turned a w z e =
    let t : z ≡ neg_ℤ w = omega (arith, ints, e) in
    let n = ap (λ x. near_div x (2 ^ 40)) t ∙ near-neg w (2 ^ 40) in
    omega (arith, ints, n)

-- ---- tests

pub sum_small : (z : ℤ) → nat_le (nat_abs z) (2 ^ 120) ≡ true → nat_abs z ≤ 2 ^ 120
sum_small z e = grind arith

pub sum_past : (z : ℤ) → nat_le (nat_abs z) (2 ^ 120) ≡ false → 2 ^ 120 < nat_abs z
sum_past z e = grind arith

pub narrow : (z : ℤ) → nat_abs z ≤ 2 ^ 62 → FitsSigned w64 z
narrow z h = fits_signed_from_abs w64 z (omega arith)

pub sum_fits : (z : ℤ) → nat_abs z ≤ 2 ^ 120 → FitsSigned w128 z
sum_fits z h = fits_signed_from_abs w128 z (omega arith)
