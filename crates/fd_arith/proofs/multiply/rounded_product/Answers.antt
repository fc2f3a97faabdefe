use Rattle.std.proofs.Common.{◌≡◌, ◌^◌, ◌*◌, arith, sym, ◌∙◌, ap, lit<, FitsSigned}
use Rattle.std.specs.Int.{w128}
use Rattle.std.specs.Int.RustNames.{unsigned_abs}
use Rattle.std.proofs.lemmas.Int.{to_z-of_z}
use Rattle.fd_arith.specs.Interval.{outward}
use Rattle.fd_exact.specs.Rounding.{signed}
use Rattle.fd_arith.specs.Capping.{outward_large}
use Rattle.fd_arith.proofs.multiply.rounded_product.Goals as goal

pub returns-in_default-clause-ends : goal.returns-in_default-clause-ends
returns-in_default-clause-ends c =
    let fx : FitsSigned w128 c.args.x = c.ranges.x in
    let fy : FitsSigned w128 c.args.y = c.ranges.y in
    let s = simp to_z-of_z at c.differ_in_sign-negative.ensures in
    let u = simp to_z-of_z at c.unsigned_abs.ensures.value in
    let v = simp to_z-of_z at c.unsigned_abs-2.ensures.value in
    let size : c.unsigned_abs.result * c.unsigned_abs-2.result ≡ unsigned_abs c.args.x * unsigned_abs c.args.y = λ i. u i * v i in
    sym (ap (λ z. outward z (2 ^ 40)) s
    ∙ outward_large c.differ_in_sign-negative.result (unsigned_abs c.args.x * unsigned_abs c.args.y) (2 ^ 40)
    (lit< tt) (omega (arith, c.in_default.ensures.large, size)))

pub returns-clause-ends : goal.returns-clause-ends
returns-clause-ends c =
    let fx : FitsSigned w128 c.args.x = c.ranges.x in
    let fy : FitsSigned w128 c.args.y = c.ranges.y in
    let s = simp to_z-of_z at c.differ_in_sign-negative.ensures in
    let u = simp to_z-of_z at c.unsigned_abs.ensures.value in
    let v = simp to_z-of_z at c.unsigned_abs-2.ensures.value in
    let size : c.unsigned_abs.result * c.unsigned_abs-2.result ≡ unsigned_abs c.args.x * unsigned_abs c.args.y = λ i. u i * v i in
    c.outward.ensures.ends (2 ^ 40) c.in-Some.ensures.rest
    ∙ ap (λ m. outward (signed c.differ_in_sign-negative.result m) (2 ^ 40)) (c.in-Some.ensures.exact ∙ size)
    ∙ ap (λ z. outward z (2 ^ 40)) (sym s)
