use Rattle.std.proofs.Common.{◌∙◌, FitsSigned}
use Rattle.std.specs.Int.{w128}
use Rattle.std.proofs.lemmas.Int.{to_z-of_z}
use Rattle.fd_exact.specs.Order.{≤ℤ_trans}
use Rattle.fd_arith.specs.Interval.{hull_of}
use Rattle.fd_arith.specs.Quotients.{quotient_from}
use Rattle.fd_arith.proofs.SignedEnds.{lower_signed, upper_signed, in_order, above, at_most, above_too}
use Rattle.fd_arith.proofs.interval.Interval.div_pos.Goals as goal

pub returns : goal.returns
returns g c =
    let ends = c.in-Some.ensures in
    let ends-2 = c.in-Some-ends.ensures in
    let lo : FitsSigned w128 c.in-Some.lo = lower_signed _ _ ends.valid in
    let hi : FitsSigned w128 c.in-Some.hi = upper_signed _ _ ends.valid in
    let low : FitsSigned w128 c.in-Some-ends.low = lower_signed _ _ ends-2.valid in
    let high : FitsSigned w128 c.in-Some-ends.high = upper_signed _ _ ends-2.valid in
    let p = simp to_z-of_z at c.scaled_quotient.ensures in
    let q = simp to_z-of_z at c.scaled_quotient-2.ensures in
    let r = simp to_z-of_z at c.scaled_quotient-3.ensures in
    let s = simp to_z-of_z at c.scaled_quotient-4.ensures in
    quotient_from ends.ends ends-2.ends ends-2.valid.1.1
    (above _ _ (simp to_z-of_z at c.if-low-le0.false)) (at_most _ _ (simp to_z-of_z at c.if-high-gt-MOST_DIVISOR.false))
    (c.hull.ensures.ends ∙ (λ i.
    hull_of ((c.hull-at_lo.ensures.ends ∙ (λ j. hull_of (p j) (q j))) i)
    ((c.hull-at_hi.ensures.ends ∙ (λ j. hull_of (r j) (s j))) i)))

pub scaled_quotient-requires-clause-positive : goal.scaled_quotient-requires-clause-positive
scaled_quotient-requires-clause-positive g c = above _ _ c.if-low-le0.false

pub scaled_quotient-requires-clause-most : goal.scaled_quotient-requires-clause-most
scaled_quotient-requires-clause-most g c =
    ≤ℤ_trans (in_order _ _ c.in-Some-ends.ensures.valid) (at_most _ _ c.if-high-gt-MOST_DIVISOR.false)

pub scaled_quotient-requires-2-clause-positive : goal.scaled_quotient-requires-2-clause-positive
scaled_quotient-requires-2-clause-positive g c =
    above_too _ _ _ (above _ _ c.if-low-le0.false) (in_order _ _ c.in-Some-ends.ensures.valid)

pub scaled_quotient-requires-2-clause-most : goal.scaled_quotient-requires-2-clause-most
scaled_quotient-requires-2-clause-most g c = at_most _ _ c.if-high-gt-MOST_DIVISOR.false

pub scaled_quotient-requires-3-clause-positive : goal.scaled_quotient-requires-3-clause-positive
scaled_quotient-requires-3-clause-positive g c = above _ _ c.if-low-le0.false

pub scaled_quotient-requires-3-clause-most : goal.scaled_quotient-requires-3-clause-most
scaled_quotient-requires-3-clause-most g c =
    ≤ℤ_trans (in_order _ _ c.in-Some-ends.ensures.valid) (at_most _ _ c.if-high-gt-MOST_DIVISOR.false)

pub scaled_quotient-requires-4-clause-positive : goal.scaled_quotient-requires-4-clause-positive
scaled_quotient-requires-4-clause-positive g c =
    above_too _ _ _ (above _ _ c.if-low-le0.false) (in_order _ _ c.in-Some-ends.ensures.valid)

pub scaled_quotient-requires-4-clause-most : goal.scaled_quotient-requires-4-clause-most
scaled_quotient-requires-4-clause-most g c = at_most _ _ c.if-high-gt-MOST_DIVISOR.false
