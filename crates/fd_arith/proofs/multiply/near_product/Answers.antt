use Rattle.std.proofs.Common.{◌≡◌, ◌^◌, ◌*◌, arith, sym, ◌∙◌, ap, lit<, FitsSigned}
use Rattle.std.specs.Int.{w128}
use Rattle.std.specs.Int.RustNames.{unsigned_abs}
use Rattle.std.proofs.lemmas.Int.{to_z-of_z}
use Rattle.fd_arith.specs.Fix.{nearest}
use Rattle.fd_arith.specs.Nearest.{nearest_large}
use Rattle.fd_arith.proofs.multiply.near_product.Goals as goal

pub returns-in_default-clause-units : goal.returns-in_default-clause-units
returns-in_default-clause-units c =
    let fx : FitsSigned w128 c.args.x = c.ranges.x in
    let fy : FitsSigned w128 c.args.y = c.ranges.y in
    let s = simp to_z-of_z at c.differ_in_sign-negative.ensures in
    let u = simp to_z-of_z at c.unsigned_abs.ensures.value in
    let v = simp to_z-of_z at c.unsigned_abs-2.ensures.value in
    let size : c.unsigned_abs.result * c.unsigned_abs-2.result ≡ unsigned_abs c.args.x * unsigned_abs c.args.y = λ i. u i * v i in
    sym (ap (λ z. nearest z (2 ^ 40)) s
    ∙ nearest_large c.differ_in_sign-negative.result (unsigned_abs c.args.x * unsigned_abs c.args.y) (2 ^ 40)
    (lit< tt) (omega (arith, c.in_default.ensures.large, size)))
