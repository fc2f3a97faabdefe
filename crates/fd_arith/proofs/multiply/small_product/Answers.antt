use Rattle.std.proofs.Common.{arith, FitsSigned, ◌≡◌, ◌≤ℤ◌, ◌*ℤ◌, ◌^◌, ◌∙◌, ap, sym, subst, lit<}
use Rattle.std.specs.Int.{w128}
use Rattle.std.proofs.lemmas.Int.{ints, to_z-of_z}
use Rattle.fd_exact.specs.Order.{≤ℤ_trans}
use Rattle.fd_exact.specs.Rounding.{floor_div, ceil_div}
use Rattle.fd_exact.specs.Quotients.{floor-ceil, floor-mono}
use Rattle.fd_arith.specs.Limits.{Fits}
use Rattle.fd_arith.specs.Interval.{least, greatest}
use Rattle.fd_arith.specs.Products.{IsSmallProduct, small_product, small_signed, least_small, greatest_small, least_greatest, floor_small, ceil_small, small_from}
use Rattle.fd_arith.proofs.SignedEnds.{product_signed}
use Rattle.fd_arith.proofs.multiply.small_product.Goals as goal

lower : (g : _) (c : goal.After-ceil_over_coef g)
    → c.floor_over_coef.result ≡ floor_div (least (c.args.lo, c.args.hi) (c.args.low, c.args.high)) (2 ^ 40)
lower g c =
    let lo : FitsSigned w128 c.args.lo = c.ranges.lo in
    let hi : FitsSigned w128 c.args.hi = c.ranges.hi in
    let low : FitsSigned w128 c.args.low = c.ranges.low in
    let high : FitsSigned w128 c.args.high = c.ranges.high in
    let p : FitsSigned w128 (c.args.lo *ℤ c.args.low) = small_signed _ (small_product _ _ c.requires.lower c.requires.lower_factor) in
    let q : FitsSigned w128 (c.args.lo *ℤ c.args.high) = small_signed _ (small_product _ _ c.requires.lower c.requires.upper_factor) in
    let r : FitsSigned w128 (c.args.hi *ℤ c.args.low) = small_signed _ (small_product _ _ c.requires.upper c.requires.lower_factor) in
    let s : FitsSigned w128 (c.args.hi *ℤ c.args.high) = small_signed _ (small_product _ _ c.requires.upper c.requires.upper_factor) in
    let e = simp to_z-of_z at c.lowest.ensures in
    let t : FitsSigned w128 c.lowest.result =
    subst (FitsSigned w128) (sym e) (small_signed _
    (least_small _ _ _ _ c.requires.lower c.requires.upper c.requires.lower_factor c.requires.upper_factor)) in
    let f = simp to_z-of_z at c.floor_over_coef.ensures in
    f ∙ ap (λ z. floor_div z (2 ^ 40)) e

highest_is : (g : _) (c : goal.After-highest g)
    → c.highest.result ≡ greatest (c.args.lo, c.args.hi) (c.args.low, c.args.high)
highest_is g c =
    let lo : FitsSigned w128 c.args.lo = c.ranges.lo in
    let hi : FitsSigned w128 c.args.hi = c.ranges.hi in
    let low : FitsSigned w128 c.args.low = c.ranges.low in
    let high : FitsSigned w128 c.args.high = c.ranges.high in
    let p : FitsSigned w128 (c.args.lo *ℤ c.args.low) = small_signed _ (small_product _ _ c.requires.lower c.requires.lower_factor) in
    let q : FitsSigned w128 (c.args.lo *ℤ c.args.high) = small_signed _ (small_product _ _ c.requires.lower c.requires.upper_factor) in
    let r : FitsSigned w128 (c.args.hi *ℤ c.args.low) = small_signed _ (small_product _ _ c.requires.upper c.requires.lower_factor) in
    let s : FitsSigned w128 (c.args.hi *ℤ c.args.high) = small_signed _ (small_product _ _ c.requires.upper c.requires.upper_factor) in
    simp to_z-of_z at c.highest.ensures

highest_small : (g : _) (c : goal.After-highest g) → IsSmallProduct c.highest.result
highest_small g c =
    subst IsSmallProduct (sym (highest_is g c))
    (greatest_small _ _ _ _ c.requires.lower c.requires.upper c.requires.lower_factor c.requires.upper_factor)

pub ceil_over_coef-requires : goal.ceil_over_coef-requires
ceil_over_coef-requires g c =
    let t : FitsSigned w128 c.highest.result = small_signed _ (highest_small g c) in
    rw (to_z-of_z w128 c.highest.result t) (highest_small g c)

upper : (g : _) (c : goal.After-ceil_over_coef g)
    → c.ceil_over_coef.result ≡ ceil_div (greatest (c.args.lo, c.args.hi) (c.args.low, c.args.high)) (2 ^ 40)
upper g c =
    let t : FitsSigned w128 c.highest.result = small_signed _ (highest_small g c.before) in
    let f = simp to_z-of_z at c.ceil_over_coef.ensures in
    f ∙ ap (λ z. ceil_div z (2 ^ 40)) (highest_is g c.before)

lower_fits : (g : _) (c : goal.After-ceil_over_coef g) → Fits c.floor_over_coef.result
lower_fits g c =
    subst Fits (sym (lower g c)) (floor_small _
    (least_small _ _ _ _ c.requires.lower c.requires.upper c.requires.lower_factor c.requires.upper_factor))

upper_fits : (g : _) (c : goal.After-ceil_over_coef g) → Fits c.ceil_over_coef.result
upper_fits g c =
    subst Fits (sym (upper g c)) (ceil_small _
    (greatest_small _ _ _ _ c.requires.lower c.requires.upper c.requires.lower_factor c.requires.upper_factor))

pub known-requires-clause-lower : goal.known-requires-clause-lower
known-requires-clause-lower g c = let f = lower_fits g c in omega (arith, ints, f)

pub known-requires-clause-upper : goal.known-requires-clause-upper
known-requires-clause-upper g c = let f = upper_fits g c in omega (arith, ints, f)

pub known-requires-clause-order : goal.known-requires-clause-order
known-requires-clause-order g c =
    let f = lower_fits g c in
    let h = upper_fits g c in
    let o = ≤ℤ_trans (floor-mono (least (c.args.lo, c.args.hi) (c.args.low, c.args.high)) (greatest (
      c.args.lo,
      c.args.hi,
    ) (c.args.low, c.args.high)) (2 ^ 40) (lit< tt) (least_greatest (c.args.lo, c.args.hi) (c.args.low, c.args.high)))
    (floor-ceil (greatest (c.args.lo, c.args.hi) (c.args.low, c.args.high)) (2 ^ 40) (lit< tt)) in
    let o2 : c.floor_over_coef.result ≤ℤ c.ceil_over_coef.result = rw (lower g c, upper g c) o in
    omega (arith, ints, f, h, o2)

pub returns : goal.returns
returns g c =
    let f = lower_fits g c.before in
    let h = upper_fits g c.before in
    small_from c.args.lo c.args.hi c.args.low c.args.high _ _
    (least_small _ _ _ _ c.requires.lower c.requires.upper c.requires.lower_factor c.requires.upper_factor)
    (greatest_small _ _ _ _ c.requires.lower c.requires.upper c.requires.lower_factor c.requires.upper_factor)
    c.known.ensures
    (omega (arith, ints, f, h, lower g c.before))
    (omega (arith, ints, f, h, upper g c.before))

pub overflow_mul-a : goal.overflow_mul-a
overflow_mul-a g c = product_signed _ _ c.ranges.lo c.ranges.low c.requires.lower c.requires.lower_factor

pub overflow_mul-b : goal.overflow_mul-b
overflow_mul-b g c = product_signed _ _ c.ranges.lo c.ranges.high c.requires.lower c.requires.upper_factor

pub overflow_mul-c : goal.overflow_mul-c
overflow_mul-c g c = product_signed _ _ c.ranges.hi c.ranges.low c.requires.upper c.requires.lower_factor

pub overflow_mul-d : goal.overflow_mul-d
overflow_mul-d g c = product_signed _ _ c.ranges.hi c.ranges.high c.requires.upper c.requires.upper_factor
