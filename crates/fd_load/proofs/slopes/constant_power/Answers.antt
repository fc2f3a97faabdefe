use Rattle.std.proofs.Common.{◌≡◌, ◌∙◌, ◌^◌, pos, neg_ℤ, arith, ap, FitsSigned}
use Rattle.std.specs.Int.{w128}
use Rattle.std.proofs.lemmas.Int.{to_z-of_z, fits_signed_from_abs, ints}
use Rattle.fd_load.specs.Current.{clamped_square, in_phase, quadrature}
use Rattle.fd_load.specs.Slopes.{admittance, power_slopes, slope_row}
use Rattle.fd_system.specs.fd_exact.ReadBack.{opposite_fits, turned}
use Rattle.fd_load.proofs.slopes.constant_power.Goals as goal

pub power_row-requires-2-clause-at_p_most : goal.power_row-requires-2-clause-at_p_most
power_row-requires-2-clause-at_p_most c =
    let b : FitsSigned w128 c.admittance-b.result = fits_signed_from_abs w128 c.admittance-b.result (omega (arith, c.admittance-b.ensures.most)) in
    let o = opposite_fits c.admittance-b.result (2 ^ 52) c.admittance-b.ensures.most (omega arith) in
    simp to_z-of_z (omega (arith, ints, c.admittance-b.ensures.most))

pub returns-clause-slopes : goal.returns-clause-slopes
returns-clause-slopes c =
    let w = c.args.load.now in
    let l = c.requires.load in
    let s : FitsSigned w128 w.p = fits_signed_from_abs w128 w.p (omega (arith, l.power)) in
    let t : FitsSigned w128 w.q = fits_signed_from_abs w128 w.q (omega (arith, l.power)) in
    let p : FitsSigned w128 c.args.p = c.ranges.p in
    let q : FitsSigned w128 c.args.q = c.ranges.q in
    let g : FitsSigned w128 c.admittance-g.result = fits_signed_from_abs w128 c.admittance-g.result (omega (arith, c.admittance-g.ensures.most)) in
    let b : FitsSigned w128 c.admittance-b.result = fits_signed_from_abs w128 c.admittance-b.result (omega (arith, c.admittance-b.ensures.most)) in
    let o = opposite_fits c.admittance-b.result (2 ^ 52) c.admittance-b.ensures.most (omega arith) in
    let n : FitsSigned w128 c.in_phase.result = fits_signed_from_abs w128 c.in_phase.result (omega (arith, c.in_phase.ensures.small)) in
    let k : FitsSigned w128 c.quadrature.result = fits_signed_from_abs w128 c.quadrature.result (omega (arith, c.quadrature.ensures.small)) in
    let d : c.clamped_square-c.result ≡ clamped_square w c.args.p c.args.q = simp to_z-of_z at c.clamped_square-c.ensures.value in
    let gv : c.admittance-g.result ≡ admittance w.p c.clamped_square-c.result = simp to_z-of_z at c.admittance-g.ensures.value in
    let bv : c.admittance-b.result ≡ admittance w.q c.clamped_square-c.result = simp to_z-of_z at c.admittance-b.ensures.value in
    let gs = gv ∙ ap (admittance w.p) d in
    let bs = bv ∙ ap (admittance w.q) d in
    let ns : c.in_phase.result ≡ in_phase w c.args.p c.args.q = simp to_z-of_z at c.in_phase.ensures.value in
    let ks : c.quadrature.result ≡ quadrature w c.args.p c.args.q = simp to_z-of_z at c.quadrature.ensures.value in
    let os = turned c.admittance-b.result ∙ ap neg_ℤ bs in
    let real = simp to_z-of_z at c.power_row.ensures.row in
    let imaginary = simp to_z-of_z at c.power_row-2.ensures.row in
    let rs = real ∙ (λ i. power_slopes w c.args.p c.args.q (gs i) (bs i) (ns i)) in
    let is = imaginary ∙ (λ i. power_slopes w c.args.p c.args.q (os i) (gs i) (ks i)) in
    (λ i. record { real = rs i; imaginary = is i; magnitude = slope_row (pos 0) (pos 0) (pos 0) })
