use Rattle.std.proofs.Common.{arith, ◌∙◌, FitsSigned}
use Rattle.std.specs.Int.{w128}
use Rattle.std.proofs.lemmas.Int.{ints, to_z-of_z}
use Rattle.fd_arith.specs.Interval.{hull_of}
use Rattle.fd_arith.specs.Products.{square_about, square_apart}
use Rattle.fd_arith.proofs.divide.Interval+Micro.square.Goals as goal

pub returns-then-holds_zero : goal.returns-then-holds_zero
returns-then-holds_zero c =
    let lo : FitsSigned w128 c.in-Some.lo = omega (arith, ints, c.in-Some.ensures) in
    let hi : FitsSigned w128 c.in-Some.hi = omega (arith, ints, c.in-Some.ensures) in
    let p = simp to_z-of_z at c.point_product.ensures in
    let q = simp to_z-of_z at c.point_product-2.ensures in
    let w = simp to_z-of_z at c.holds_zero.ensures in
    square_about c.holds_zero.result c.in-Some.ensures.ends w c.if-holds_zero.true (
    c.hull.ensures.ends ∙ (λ i. hull_of ((c.hull-ends.ensures.ends ∙ (λ j. hull_of (p j) (q j))) i) (c.point.ensures i)))

pub returns-else-holds_zero : goal.returns-else-holds_zero
returns-else-holds_zero c =
    let lo : FitsSigned w128 c.in-Some.lo = omega (arith, ints, c.in-Some.ensures) in
    let hi : FitsSigned w128 c.in-Some.hi = omega (arith, ints, c.in-Some.ensures) in
    let p = simp to_z-of_z at c.point_product.ensures in
    let q = simp to_z-of_z at c.point_product-2.ensures in
    let w = simp to_z-of_z at c.holds_zero.ensures in
    square_apart c.holds_zero.result c.in-Some.ensures.ends w c.if-holds_zero.false (
    c.hull-ends.ensures.ends ∙ (λ j. hull_of (p j) (q j)))
