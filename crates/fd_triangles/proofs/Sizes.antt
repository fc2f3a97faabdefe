-- Numbers of one row that loses another.
use Rattle.std.proofs.Common.{◌≡◌, ◌<◌, ◌≤◌, ◌^◌, ℤ, pos, ◌*ℤ◌, ◌-ℤ◌, nat_abs, nat_le, true, false, arith, ap, sym, ◌∙◌, to_z, of_z, FitsSigned}
use Rattle.std.proofs.Math.Nat.{mul-le-mul}
use Rattle.std.proofs.lemmas.Int.{ints, to_z-of_z, fits_signed_from_abs, unsigned_abs-mul}
use Rattle.std.specs.Int.{w64, w128}
use Rattle.fd_derived.specs.fd_factors.fd_exact.Integers.{abs_sub}
use Rattle.fd_derived.specs.fd_factors.fd_exact.Nearest.{near_within}
use Rattle.fd_derived.specs.fd_factors.fd_exact.Rounding.{near_div}
pub use Rattle.fd_derived.specs.fd_factors.fd_exact.Nearest.{near_over_size}

pub product_small : (f v : ℤ) → nat_abs f ≤ 2 ^ 62 → nat_abs v ≤ 2 ^ 62 → nat_abs (f *ℤ v) ≤ 2 ^ 124
product_small f v hf hv =
    let m = unsigned_abs-mul f v in
    let p = mul-le-mul hf hv in
    omega arith

-- a product over 2^40 isn't past 2^84
pub quotient_small : (f v : ℤ) → nat_abs f ≤ 2 ^ 62 → nat_abs v ≤ 2 ^ 62 → nat_abs (near_div (f *ℤ v) (2 ^ 40)) ≤ 2 ^ 84
quotient_small f v hf hv =
    let p = product_small f v hf hv in
    near_within (f *ℤ v) (2 ^ 40) (2 ^ 84) (omega arith) (omega (arith, p))

pub product_fits : (f v : ℤ) → nat_abs f ≤ 2 ^ 62 → nat_abs v ≤ 2 ^ 62 → FitsSigned w128 (f *ℤ v)
product_fits f v hf hv = let p = product_small f v hf hv in fits_signed_from_abs w128 (f *ℤ v) (omega arith)

pub difference_fits : (u f v : ℤ) → FitsSigned w64 u → nat_abs f ≤ 2 ^ 62 → nat_abs v ≤ 2 ^ 62
    → FitsSigned w128 (u -ℤ near_div (f *ℤ v) (2 ^ 40))
difference_fits u f v fits hf hv =
    let q = quotient_small f v hf hv in
    let s = abs_sub u (near_div (f *ℤ v) (2 ^ 40)) in
    let r : nat_abs u ≤ 2 ^ 63 = omega (arith, ints, fits) in
    fits_signed_from_abs w128 (u -ℤ near_div (f *ℤ v) (2 ^ 40)) (omega arith)

pub small_from : (z : ℤ) → nat_le (nat_abs z) (2 ^ 62) ≡ true → nat_abs z ≤ 2 ^ 62
small_from z e = grind arith

pub past_from : (z : ℤ) → nat_le (nat_abs z) (2 ^ 62) ≡ false → 2 ^ 62 < nat_abs z
past_from z e = grind arith

pub narrow : (z : ℤ) → nat_abs z ≤ 2 ^ 62 → FitsSigned w64 z
narrow z h = fits_signed_from_abs w64 z (omega arith)

pub zero_read : (z : ℤ) → FitsSigned w64 z → of_z w64 z ≡ 0 → z ≡ pos 0
zero_read z f e = sym (to_z-of_z w64 z f) ∙ ap (to_z w64) e
