use Rattle.std.proofs.Common.{◌∙◌, ◌^◌, neg_ℤ, arith, ap, FitsSigned}
use Rattle.std.specs.Int.{w128}
use Rattle.std.proofs.lemmas.Int.{to_z-of_z, fits_signed_from_abs}
use Rattle.fd_load.specs.Slopes.{slope_row}
use Rattle.fd_system.specs.fd_exact.ReadBack.{opposite_fits, turned}
use Rattle.fd_load.proofs.slopes.magnitude_slopes.Goals as goal

pub returns-clause-row : goal.returns-clause-row
returns-clause-row c =
    let p : FitsSigned w128 c.args.p = c.ranges.p in
    let q : FitsSigned w128 c.args.q = c.ranges.q in
    let m : FitsSigned w128 c.args.m = c.ranges.m in
    let x : FitsSigned w128 c.over_nominal.result = fits_signed_from_abs w128 c.over_nominal.result (omega (arith, c.over_nominal.ensures.most)) in
    let y : FitsSigned w128 c.over_nominal-2.result = fits_signed_from_abs w128 c.over_nominal-2.result (omega (arith, c.over_nominal-2.ensures.most)) in
    let z : FitsSigned w128 c.over_nominal-3.result = fits_signed_from_abs w128 c.over_nominal-3.result (omega (arith, c.over_nominal-3.ensures.most)) in
    let nx = opposite_fits c.over_nominal.result (2 ^ 60) c.over_nominal.ensures.most (omega arith) in
    let ny = opposite_fits c.over_nominal-2.result (2 ^ 60) c.over_nominal-2.ensures.most (omega arith) in
    let e = turned c.over_nominal.result ∙ ap neg_ℤ (simp to_z-of_z at c.over_nominal.ensures.value) in
    let f = turned c.over_nominal-2.result ∙ ap neg_ℤ (simp to_z-of_z at c.over_nominal-2.ensures.value) in
    let g = simp to_z-of_z at c.over_nominal-3.ensures.value in
    simp to_z-of_z (λ i. slope_row (e i) (f i) (g i))
