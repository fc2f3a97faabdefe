use Rattle.std.proofs.Common.{FitsSigned}
use Rattle.std.specs.Int.{w64, w128}
use Rattle.std.proofs.Math.Facts.{sfits_widen}
use Rattle.std.proofs.lemmas.Int.{to_z-of_z}
use Rattle.fd_substitution.proofs.Sizes.{difference_fits, product_fits}
use Rattle.fd_substitution.proofs.sums.less.Goals as goal

pub overflow_sub-result : goal.overflow_sub-result
overflow_sub-result c =
    let fz : FitsSigned w128 c.args.z = c.ranges.z in
    let fu : FitsSigned w64 c.args.units = c.ranges.units in
    let fx : FitsSigned w64 c.args.number = c.ranges.number in
    let wu : FitsSigned w128 c.args.units = sfits_widen tt c.ranges.units in
    let wx : FitsSigned w128 c.args.number = sfits_widen tt c.ranges.number in
    let fp = product_fits c.args.units c.args.number c.ranges.units c.ranges.number in
    let ft = difference_fits c.args.z c.args.units c.args.number c.requires c.ranges.units c.ranges.number in
    simp to_z-of_z ft

pub returns : goal.returns
returns c =
    let fz : FitsSigned w128 c.args.z = c.ranges.z in
    let fu : FitsSigned w64 c.args.units = c.ranges.units in
    let fx : FitsSigned w64 c.args.number = c.ranges.number in
    let wu : FitsSigned w128 c.args.units = sfits_widen tt c.ranges.units in
    let wx : FitsSigned w128 c.args.number = sfits_widen tt c.ranges.number in
    let fp = product_fits c.args.units c.args.number c.ranges.units c.ranges.number in
    let ft = difference_fits c.args.z c.args.units c.args.number c.requires c.ranges.units c.ranges.number in
    simp to_z-of_z
