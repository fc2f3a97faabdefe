use Rattle.std.proofs.Common.{◌≤◌, ◌^◌, ℤ, pos, ◌-ℤ◌, nat_abs, arith, FitsSigned}
use Rattle.std.specs.Int.{w128}
use Rattle.std.proofs.lemmas.Int.{to_z-of_z, fits_signed_from_abs}
use Rattle.fd_system.specs.fd_exact.Integers.{abs_sub}
use Rattle.fd_load.specs.Slopes.{slope_row}
use Rattle.fd_load.proofs.slopes.power_row.Goals as goal

difference_fits : (x y : ℤ) → nat_abs x ≤ 2 ^ 52 → nat_abs y ≤ 2 ^ 53 → FitsSigned w128 (x -ℤ y)
difference_fits x y h k = fits_signed_from_abs w128 (x -ℤ y) (omega (arith, abs_sub x y))

pub returns-clause-row : goal.returns-clause-row
returns-clause-row c =
    let less = c.by_square-less_p.result in
    let p : FitsSigned w128 c.args.p = c.ranges.p in
    let q : FitsSigned w128 c.args.q = c.ranges.q in
    let n : FitsSigned w128 c.args.n = c.ranges.n in
    let x : FitsSigned w128 c.args.at_p = c.ranges.at_p in
    let y : FitsSigned w128 c.args.at_q = c.ranges.at_q in
    let u : FitsSigned w128 less.0 = fits_signed_from_abs w128 less.0 (omega (arith, c.by_square-less_p.ensures.p_size)) in
    let v : FitsSigned w128 less.1 = fits_signed_from_abs w128 less.1 (omega (arith, c.by_square-less_p.ensures.q_size)) in
    let d = difference_fits c.args.at_p less.0 c.requires.at_p_most c.by_square-less_p.ensures.p_size in
    let f = difference_fits c.args.at_q less.1 c.requires.at_q_most c.by_square-less_p.ensures.q_size in
    let g = simp to_z-of_z at c.by_square-less_p.ensures.p in
    let h = simp to_z-of_z at c.by_square-less_p.ensures.q in
    simp to_z-of_z (λ i. slope_row (c.args.at_p -ℤ g i) (c.args.at_q -ℤ h i) (pos 0))
