use Rattle.std.proofs.Common.{◌∙◌, FitsSigned}
use Rattle.std.specs.Int.{w128}
use Rattle.std.proofs.lemmas.Int.{to_z-of_z}
use Rattle.fd_arith.specs.Interval.{hull_of}
use Rattle.fd_arith.specs.Products.{four_products}
use Rattle.fd_arith.proofs.multiply.large_product.Goals as goal

pub returns : goal.returns
returns g c =
    let lo : FitsSigned w128 c.args.lo = c.ranges.lo in
    let hi : FitsSigned w128 c.args.hi = c.ranges.hi in
    let low : FitsSigned w128 c.args.low = c.ranges.low in
    let high : FitsSigned w128 c.args.high = c.ranges.high in
    let p = simp to_z-of_z at c.end_product.ensures in
    let q = simp to_z-of_z at c.end_product-2.ensures in
    let r = simp to_z-of_z at c.end_product-3.ensures in
    let s = simp to_z-of_z at c.end_product-4.ensures in
    c.hull.ensures.ends
    ∙ (λ i. hull_of ((c.hull-at_lo.ensures.ends ∙ (λ j. hull_of (p j) (q j))) i)
    ((c.hull-at_hi.ensures.ends ∙ (λ j. hull_of (r j) (s j))) i))
    ∙ four_products c.args.lo c.args.hi c.args.low c.args.high
