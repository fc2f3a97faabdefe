use Rattle.std.proofs.Common.{FitsSigned, ◌∙◌, sym}
use Rattle.std.specs.Int.{w128}
use Rattle.std.proofs.lemmas.Int.{to_z-of_z}
use Rattle.fd_arith.specs.Products.{point_past}
use Rattle.fd_arith.proofs.divide.point_product.Goals as goal

pub returns-in-None : goal.returns-in-None
returns-in-None c =
    let fx : FitsSigned w128 c.args.x = c.ranges.x in
    let fy : FitsSigned w128 c.args.y = c.ranges.y in
    let past = simp to_z-of_z at c.in-None.ensures in
    c.all.ensures ∙ sym (point_past _ past)
