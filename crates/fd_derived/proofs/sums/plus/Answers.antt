use Rattle.std.proofs.Common.{◌+ℤ◌, ◌*ℤ◌, FitsSigned}
use Rattle.std.specs.Int.{w64, w128}
use Rattle.std.proofs.Math.Facts.{sfits_widen}
use Rattle.std.proofs.lemmas.Int.{to_z-of_z}
use Rattle.fd_derived.proofs.Adding.{product_fits, sum_fits}
use Rattle.fd_derived.proofs.sums.plus.Goals as goal

pub returns : goal.returns
returns c =
    let s = c.args.sum in
    let f = c.args.factor in
    let u = c.args.units in
    let fs : FitsSigned w128 s = c.ranges.sum in
    let ff : FitsSigned w128 f = c.ranges.factor in
    let fu : FitsSigned w64 u = c.ranges.units in
    let fw : FitsSigned w128 u = sfits_widen tt fu in
    let fp : FitsSigned w128 (f *ℤ u) = product_fits s f u c.requires in
    let ft : FitsSigned w128 (s +ℤ f *ℤ u) = sum_fits s f u c.requires in
    simp to_z-of_z
