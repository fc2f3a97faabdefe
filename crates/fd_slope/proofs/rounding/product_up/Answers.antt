use Rattle.std.proofs.Common.{◌≡◌, ◌∙◌, ◌*◌, ◌^◌, ◌≤◌, ℤ, pos, Some, arith, ap, rules, to_z, of_z, nat_abs}
use Rattle.std.specs.Int.{w128}
use Rattle.std.proofs.lemmas.Int.{to_z_pos}
use Rattle.fd_load.specs.fd_exact.Quotients.{ceil_nat_least}
use Rattle.fd_load.specs.fd_exact.Rounding.{floor_div}
use Rattle.fd_load.specs.fd_arith.Interval.{capped, product}
use Rattle.fd_slope.specs.Radii.{product_up}
use Rattle.fd_slope.proofs.Bounded.{point_is, product_is, product_most, read_natural, same_value}
use Rattle.fd_slope.proofs.rounding.product_up.Goals as goal
use Rattle.fd_slope.proofs.rounding.product_up.Goals.{After-ends, After-struct_told-1}

found : (c : After-ends)
    → c.ends.result ≡ Some (floor_div (pos (c.args.x * c.args.y)) (2 ^ 40), pos (product_up c.args.x c.args.y))
found c =
    let x = to_z_pos w128 c.args.x (omega (arith, c.requires.first)) in
    let y = to_z_pos w128 c.args.y (omega (arith, c.requires.second)) in
    let px : c.point.result ≡ Some (pos c.args.x, pos c.args.x) =
    c.point.ensures ∙ (λ i. capped (x i) (x i)) ∙ point_is c.args.x (omega (arith, c.requires.first)) in
    let py : c.point-factor.result ≡ Some (pos c.args.y, pos c.args.y) =
    c.point-factor.ensures ∙ (λ i. capped (y i) (y i)) ∙ point_is c.args.y (omega (arith, c.requires.second)) in
    c.ends.ensures.ends
    ∙ c.mul-product.ensures.ends
    ∙ (λ i. product (px i) (py i))
    ∙ product_is c.args.x c.args.y (product_most c.args.x c.args.y c.requires.first c.requires.second)

pub unwrap-high-requires : goal.unwrap-high-requires
unwrap-high-requires c = rw (found c) (search rules)

most : (c : After-struct_told-1) → product_up c.args.x c.args.y ≤ 2 ^ 119
most c = ceil_nat_least (c.args.x * c.args.y) (2 ^ 40) (2 ^ 119) (omega arith) (product_most c.args.x c.args.y c.requires.first c.requires.second)

whole : (c : After-struct_told-1) → to_z w128 (of_z w128 c.unwrap-high.result.1) ≡ pos (product_up c.args.x c.args.y)
whole c =
    let x = to_z_pos w128 c.args.x (omega (arith, c.requires.first)) in
    let y = to_z_pos w128 c.args.y (omega (arith, c.requires.second)) in
    let px : c.point.result ≡ Some (pos c.args.x, pos c.args.x) =
    c.point.ensures ∙ (λ i. capped (x i) (x i)) ∙ point_is c.args.x (omega (arith, c.requires.first)) in
    let py : c.point-factor.result ≡ Some (pos c.args.y, pos c.args.y) =
    c.point-factor.ensures ∙ (λ i. capped (y i) (y i)) ∙ point_is c.args.y (omega (arith, c.requires.second)) in
    let ends : c.ends.result
    ≡ Some (floor_div (pos (c.args.x * c.args.y)) (2 ^ 40), pos (product_up c.args.x c.args.y)) =
    c.ends.ensures.ends ∙ c.mul-product.ensures.ends ∙ (λ i. product (px i) (py i))
    ∙ product_is c.args.x c.args.y (product_most c.args.x c.args.y c.requires.first c.requires.second) in
    ap (λ (e : ℤ × ℤ). to_z w128 (of_z w128 e.1)) (same_value c.unwrap-high.ensures ends) ∙ read_natural (product_up c.args.x c.args.y) (most c)

pub overflow_cast-result : goal.overflow_cast-result
overflow_cast-result c = rw (whole c) (tt, omega (arith, most c))

pub returns-clause-value : goal.returns-clause-value
returns-clause-value c = ap nat_abs (whole c)

pub returns-clause-within : goal.returns-clause-within
returns-clause-within c = λ k h. rw (whole c) (ceil_nat_least (c.args.x * c.args.y) (2 ^ 40) k (omega arith) h)
