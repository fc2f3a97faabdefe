use Rattle.std.proofs.Common.{arith, ◌∙◌, FitsSigned}
use Rattle.std.specs.Int.{w128}
use Rattle.std.proofs.lemmas.Int.{ints, to_z-of_z}
use Rattle.fd_arith.specs.Interval.{hull_of}
use Rattle.fd_arith.specs.Products.{area_from}
use Rattle.fd_arith.proofs.divide.Interval+Micro.area.Goals as goal

pub returns : goal.returns
returns c =
    let lo : FitsSigned w128 c.in-Some.lo = omega (arith, ints, c.in-Some.ensures) in
    let hi : FitsSigned w128 c.in-Some.hi = omega (arith, ints, c.in-Some.ensures) in
    let low : FitsSigned w128 c.in-Some-ends.low = omega (arith, ints, c.in-Some-ends.ensures) in
    let high : FitsSigned w128 c.in-Some-ends.high = omega (arith, ints, c.in-Some-ends.ensures) in
    let p = simp to_z-of_z at c.point_product.ensures in
    let q = simp to_z-of_z at c.point_product-2.ensures in
    let r = simp to_z-of_z at c.point_product-3.ensures in
    let s = simp to_z-of_z at c.point_product-4.ensures in
    area_from c.in-Some.ensures.ends c.in-Some-ends.ensures.ends (c.hull.ensures.ends ∙ (λ i.
    hull_of ((c.hull-at_lo.ensures.ends ∙ (λ j. hull_of (p j) (q j))) i)
    ((c.hull-at_hi.ensures.ends ∙ (λ j. hull_of (r j) (s j))) i)))
