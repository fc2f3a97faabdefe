use Rattle.std.proofs.Common.{◌≡◌, ◌^◌, ◌*ℤ◌, ◌-ℤ◌, ap, sym, subst, FitsSigned, rules}
use Rattle.std.specs.Int.{w64, w128}
use Rattle.std.proofs.Math.Facts.{sfits_widen}
use Rattle.std.proofs.lemmas.Int.{to_z-of_z}
use Rattle.fd_derived.specs.fd_factors.fd_exact.Rounding.{near_div}
use Rattle.fd_triangles.specs.Elimination.{less}
use Rattle.fd_triangles.proofs.Sizes.{difference_fits, product_fits}
use Rattle.fd_triangles.proofs.numbers.less.Goals as goal

quotient_is : (c : goal.After-near_quotient) → c.near_quotient.result ≡ near_div (c.args.f *ℤ c.args.other) (2 ^ 40)
quotient_is c =
    let sf : FitsSigned w64 c.args.f = c.ranges.f in
    let so : FitsSigned w64 c.args.other = c.ranges.other in
    let ff : FitsSigned w128 c.args.f = sfits_widen tt c.ranges.f in
    let fo : FitsSigned w128 c.args.other = sfits_widen tt c.ranges.other in
    let fp = product_fits c.args.f c.args.other c.requires.f c.requires.other in
    simp to_z-of_z at c.near_quotient.ensures.value

pub overflow_sub-result : goal.overflow_sub-result
overflow_sub-result c =
    let su : FitsSigned w64 c.args.units = c.ranges.units in
    let fu : FitsSigned w128 c.args.units = sfits_widen tt c.ranges.units in
    let fr : FitsSigned w128 c.near_quotient.result = search rules in
    let fd = difference_fits c.args.units c.args.f c.args.other c.ranges.units c.requires.f c.requires.other in
    let ft = subst (λ q. FitsSigned w128 (c.args.units -ℤ q)) (sym (quotient_is c)) fd in
    simp to_z-of_z ft

pub returns : goal.returns
unfolding less
returns c =
    let su : FitsSigned w64 c.args.units = c.ranges.units in
    let fu : FitsSigned w128 c.args.units = sfits_widen tt c.ranges.units in
    let fr : FitsSigned w128 c.near_quotient.result = search rules in
    let fd = difference_fits c.args.units c.args.f c.args.other c.ranges.units c.requires.f c.requires.other in
    let ft = subst (λ q. FitsSigned w128 (c.args.units -ℤ q)) (sym (quotient_is c)) fd in
    simp to_z-of_z (ap (λ q. c.args.units -ℤ q) (quotient_is c))
