use Rattle.std.proofs.Common.{◌≡◌, ◌∙◌, ◌≤◌, ◌^◌, ◌*ℤ◌, ℤ, Some, to_z, of_z, nat_abs, arith, ap, sym, FitsSigned}
use Rattle.std.specs.Int.{w64, w128}
use Rattle.std.proofs.Math.Nat.{mul-le-mul}
use Rattle.std.proofs.lemmas.Int.{to_z-of_z, fits_signed_from_abs, unsigned_abs-mul}
use Rattle.fd_cert.proofs.Units.{kept_by, within_small}
use Rattle.fd_cert.proofs.sums.short_product.Goals as goal

-- a number below 2^63 is what 64 bits keep of it
short : (z : ℤ) → nat_abs z ≤ 2 ^ 59 → to_z w128 (of_z w128 (to_z w64 (of_z w64 (to_z w128 (of_z w128 z))))) ≡ z
short z h =
    let long : FitsSigned w128 z = fits_signed_from_abs w128 z (omega arith) in
    let half : FitsSigned w64 z = fits_signed_from_abs w64 z (omega arith) in
    rw (to_z-of_z w128 z long, to_z-of_z w64 z half) (to_z-of_z w128 z long)

product_small : (a b : ℤ) → nat_abs a ≤ 2 ^ 59 → nat_abs b ≤ 2 ^ 59 → nat_abs (a *ℤ b) ≤ 2 ^ 118
product_small a b h k = let e = unsigned_abs-mul a b in let m = mul-le-mul h k in omega arith

pub returns : goal.returns
returns c =
    let f = c.args.factor in
    let e = c.args.entry in
    let small = product_small f e c.requires.factor c.requires.entry in
    ap Some ((λ i. to_z w128 (of_z w128 (short f c.requires.factor i *ℤ short e c.requires.entry i)))
    ∙ kept_by (f *ℤ e) (omega (arith, small)))
    ∙ sym (within_small (f *ℤ e) (omega (arith, small)))
