use Rattle.std.proofs.Common.{◌≡◌, ◌^◌, ◌≤◌, ◌*ℤ◌, ℤ, to_z, of_z, nat_abs, lit<, FitsSigned}
use Rattle.std.specs.Int.{w128}
use Rattle.std.proofs.lemmas.Int.{to_z-of_z, fits_signed_mul}
use Rattle.fd_equations.proofs.Sizes.{product_size}
use Rattle.fd_equations.proofs.sparse.product.Goals as goal

whole : (f p : ℤ) → FitsSigned w128 f → FitsSigned w128 p → nat_abs f ≤ 2 ^ 54 → nat_abs p ≤ 2 ^ 40
    → to_z w128 (of_z w128 (to_z w128 (of_z w128 f) *ℤ to_z w128 (of_z w128 p))) ≡ f *ℤ p
whole f p ff fp hf hp = rw (to_z-of_z w128 f ff, to_z-of_z w128 p fp) (to_z-of_z w128 (f *ℤ p) (fits_signed_mul w128 f p (2 ^ 54) (2 ^ 40) hf hp (lit< tt)))

pub returns-clause-value : goal.returns-clause-value
returns-clause-value c = whole c.args.units c.args.part c.ranges.units c.ranges.part c.requires.units c.requires.part

pub returns-clause-small : goal.returns-clause-small
returns-clause-small c =
    rw (whole c.args.units c.args.part c.ranges.units c.ranges.part c.requires.units c.requires.part)
    (product_size c.args.units c.args.part c.requires.units c.requires.part)
