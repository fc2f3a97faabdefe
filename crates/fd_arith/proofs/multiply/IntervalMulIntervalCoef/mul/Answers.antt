use Rattle.std.proofs.Common.{FitsSigned}
use Rattle.std.specs.Int.{w128}
use Rattle.std.proofs.lemmas.Int.{to_z-of_z}
use Rattle.fd_arith.specs.Products.{product_known}
use Rattle.fd_arith.proofs.SignedEnds.{lower_signed, upper_signed, in_order, product_of_all, product_by_all}
use Rattle.fd_arith.proofs.multiply.IntervalMulIntervalCoef.mul.Goals as goal

pub returns-in_default : goal.returns-in_default
returns-in_default g c = product_of_all c.in_default.ensures.ends c.all.ensures

pub returns-in_default-ends : goal.returns-in_default-ends
returns-in_default-ends g c = product_by_all c.in_default-ends.ensures.ends c.all-in_default-ends.ensures

pub is_small-requires : goal.is_small-requires
is_small-requires g c = in_order _ _ c.in-Some.ensures.valid

pub is_small-requires-then-is_small : goal.is_small-requires-then-is_small
is_small-requires-then-is_small g c = in_order _ _ c.in-Some-ends.ensures.valid

pub small_product-requires-clause-lower : goal.small_product-requires-clause-lower
small_product-requires-clause-lower g c = (c.is_small.ensures.0 c.if-is_small.true).0

pub small_product-requires-clause-upper : goal.small_product-requires-clause-upper
small_product-requires-clause-upper g c = (c.is_small.ensures.0 c.if-is_small.true).1

pub small_product-requires-clause-lower_factor : goal.small_product-requires-clause-lower_factor
small_product-requires-clause-lower_factor g c = (c.is_small-then-is_small.ensures.0 c.if-is_small-2.true).0

pub small_product-requires-clause-upper_factor : goal.small_product-requires-clause-upper_factor
small_product-requires-clause-upper_factor g c = (c.is_small-then-is_small.ensures.0 c.if-is_small-2.true).1

pub returns-then-is_small-2 : goal.returns-then-is_small-2
returns-then-is_small-2 g c =
    let ends = c.in-Some.ensures in
    let ends-2 = c.in-Some-ends.ensures in
    let lo : FitsSigned w128 c.in-Some.lo = lower_signed _ _ ends.valid in
    let hi : FitsSigned w128 c.in-Some.hi = upper_signed _ _ ends.valid in
    let low : FitsSigned w128 c.in-Some-ends.low = lower_signed _ _ ends-2.valid in
    let high : FitsSigned w128 c.in-Some-ends.high = upper_signed _ _ ends-2.valid in
    product_known ends.ends ends-2.ends (simp to_z-of_z at c.small_product.ensures)

pub returns-else-is_small : goal.returns-else-is_small
returns-else-is_small g c =
    let ends = c.in-Some.ensures in
    let ends-2 = c.in-Some-ends.ensures in
    let lo : FitsSigned w128 c.in-Some.lo = lower_signed _ _ ends.valid in
    let hi : FitsSigned w128 c.in-Some.hi = upper_signed _ _ ends.valid in
    let low : FitsSigned w128 c.in-Some-ends.low = lower_signed _ _ ends-2.valid in
    let high : FitsSigned w128 c.in-Some-ends.high = upper_signed _ _ ends-2.valid in
    product_known ends.ends ends-2.ends (simp to_z-of_z at c.large_product.ensures)
