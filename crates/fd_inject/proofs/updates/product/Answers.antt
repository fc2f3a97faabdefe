use Rattle.std.proofs.Common.{◌≡◌, ◌∙◌, ◌^◌, ◌≤◌, ◌*ℤ◌, ℕ, ℤ, to_z, of_z, nat_abs, lit<, arith, FitsSigned}
use Rattle.std.specs.Int.{w64, w128}
use Rattle.std.proofs.lemmas.Int.{ints, to_z-of_z, fits_signed_mul, fits_signed_from_abs}
use Rattle.fd_inject.proofs.Sizes.{product_size}
use Rattle.fd_inject.proofs.updates.product.Goals as goal

-- a number below 2^63 is what 64 bits keep of it
short : (z : ℤ) → nat_abs z ≤ 2 ^ 58 → to_z w128 (of_z w128 (to_z w64 (of_z w64 (to_z w128 (of_z w128 z))))) ≡ z
short z h =
    let long : FitsSigned w128 z = fits_signed_from_abs w128 z (omega arith) in
    let half : FitsSigned w64 z = fits_signed_from_abs w64 z (omega arith) in
    rw (to_z-of_z w128 z long, to_z-of_z w64 z half) (to_z-of_z w128 z long)

-- a number of 64 bits, in 128
widened : (n : ℕ) → to_z w128 (of_z w128 (to_z w64 n)) ≡ to_z w64 n
widened n = omega (arith, ints)

long : (z : ℤ) → nat_abs z ≤ 2 ^ 58 → to_z w128 (of_z w128 (to_z w64 (of_z w64 z))) ≡ z
long z h = widened (of_z w64 z) ∙ to_z-of_z w64 z (fits_signed_from_abs w64 z (omega arith))

pub returns-clause-small : goal.returns-clause-small
returns-clause-small c =
    let e = c.args.entry in
    let r = c.args.residual in
    let whole = fits_signed_mul w128 e r (2 ^ 56) (2 ^ 58) c.requires.entry c.requires.residual (lit< tt) in
    rw (long e (omega (arith, c.requires.entry)), short r c.requires.residual)
    (rw (to_z-of_z w128 (e *ℤ r) whole) (product_size e r c.requires.entry c.requires.residual))
