use Rattle.std.proofs.Common.{◌≡◌, ◌∙◌, ◌*◌, ◌^◌, neg_ℤ, nat_abs, arith, ap, FitsSigned}
use Rattle.std.specs.Int.{w128}
use Rattle.std.proofs.lemmas.Int.{to_z-of_z, fits_signed_from_abs, ints}
use Rattle.fd_load.specs.Current.{clamped_magnitude, in_phase, quadrature}
use Rattle.fd_load.specs.Slopes.{admittance, by_magnitude, slope_row}
use Rattle.fd_system.specs.fd_exact.ReadBack.{opposite_fits, turned}
use Rattle.fd_load.proofs.VoltageSizes.{part_kept, voltages_kept, numerator_kept, opposite_kept, first_power_kept, second_power_kept}
use Rattle.fd_load.proofs.slopes.constant_current.Goals as goal

pub admittance-g-requires-clause-power : goal.admittance-g-requires-clause-power
admittance-g-requires-clause-power c = first_power_kept c.args.load.now c.requires.load

pub admittance-b-requires-clause-power : goal.admittance-b-requires-clause-power
admittance-b-requires-clause-power c = second_power_kept c.args.load.now c.requires.load

pub in_phase-requires-clause-p_most : goal.in_phase-requires-clause-p_most
in_phase-requires-clause-p_most c = part_kept c.args.p c.requires.voltages.re

pub in_phase-requires-clause-q_most : goal.in_phase-requires-clause-q_most
in_phase-requires-clause-q_most c = part_kept c.args.q c.requires.voltages.im

pub quadrature-requires-clause-p_most : goal.quadrature-requires-clause-p_most
quadrature-requires-clause-p_most c = part_kept c.args.p c.requires.voltages.re

pub quadrature-requires-clause-q_most : goal.quadrature-requires-clause-q_most
quadrature-requires-clause-q_most c = part_kept c.args.q c.requires.voltages.im

pub by_magnitude-real_m-requires-clause-p_most : goal.by_magnitude-real_m-requires-clause-p_most
by_magnitude-real_m-requires-clause-p_most c = part_kept c.args.p c.requires.voltages.re

pub by_magnitude-real_m-requires-clause-q_most : goal.by_magnitude-real_m-requires-clause-q_most
by_magnitude-real_m-requires-clause-q_most c = part_kept c.args.q c.requires.voltages.im

pub by_magnitude-imaginary_m-requires-clause-p_most : goal.by_magnitude-imaginary_m-requires-clause-p_most
by_magnitude-imaginary_m-requires-clause-p_most c = part_kept c.args.p c.requires.voltages.re

pub by_magnitude-imaginary_m-requires-clause-q_most : goal.by_magnitude-imaginary_m-requires-clause-q_most
by_magnitude-imaginary_m-requires-clause-q_most c = part_kept c.args.q c.requires.voltages.im

pub by_magnitude-real_m-requires-clause-n_most : goal.by_magnitude-real_m-requires-clause-n_most
by_magnitude-real_m-requires-clause-n_most c =
    numerator_kept c.in_phase.result _ c.in_phase.ensures.small c.in_phase.ensures.most

pub by_magnitude-imaginary_m-requires-clause-n_most : goal.by_magnitude-imaginary_m-requires-clause-n_most
by_magnitude-imaginary_m-requires-clause-n_most c =
    numerator_kept c.quadrature.result _ c.quadrature.ensures.small c.quadrature.ensures.most

pub overflow_sub-result : goal.overflow_sub-result
overflow_sub-result c = opposite_kept c.admittance-b.result c.admittance-b.ensures.most

pub magnitude_slopes-requires-clause-voltages : goal.magnitude_slopes-requires-clause-voltages
magnitude_slopes-requires-clause-voltages c = voltages_kept c.args.p c.args.q c.args.m c.requires.voltages

pub returns-clause-imaginary : goal.returns-clause-imaginary
returns-clause-imaginary c =
    let g : FitsSigned w128 c.admittance-g.result = fits_signed_from_abs w128 c.admittance-g.result (omega (arith, c.admittance-g.ensures.most)) in
    let b : FitsSigned w128 c.admittance-b.result = fits_signed_from_abs w128 c.admittance-b.result (omega (arith, c.admittance-b.ensures.most)) in
    let o = opposite_fits c.admittance-b.result (2 ^ 52) c.admittance-b.ensures.most (omega arith) in
    let v : FitsSigned w128 c.by_magnitude-imaginary_m.result =
    fits_signed_from_abs w128 c.by_magnitude-imaginary_m.result
    (omega (arith, c.by_magnitude-imaginary_m.ensures.most)) in
    record {
      p = simp to_z-of_z (omega (arith, ints, c.admittance-b.ensures.most));
      q = simp to_z-of_z (omega (arith, c.admittance-g.ensures.most));
      m = simp to_z-of_z c.by_magnitude-imaginary_m.ensures.most;
    }

pub returns-clause-slopes : goal.returns-clause-slopes
returns-clause-slopes c =
    let w = c.args.load.now in
    let l = c.requires.load in
    let s : FitsSigned w128 w.p = fits_signed_from_abs w128 w.p (omega (arith, l.power)) in
    let t : FitsSigned w128 w.q = fits_signed_from_abs w128 w.q (omega (arith, l.power)) in
    let p : FitsSigned w128 c.args.p = c.ranges.p in
    let q : FitsSigned w128 c.args.q = c.ranges.q in
    let m : FitsSigned w128 c.args.m = c.ranges.m in
    let g : FitsSigned w128 c.admittance-g.result = fits_signed_from_abs w128 c.admittance-g.result (omega (arith, c.admittance-g.ensures.most)) in
    let b : FitsSigned w128 c.admittance-b.result = fits_signed_from_abs w128 c.admittance-b.result (omega (arith, c.admittance-b.ensures.most)) in
    let o = opposite_fits c.admittance-b.result (2 ^ 52) c.admittance-b.ensures.most (omega arith) in
    let n : FitsSigned w128 c.in_phase.result = fits_signed_from_abs w128 c.in_phase.result (omega (arith, c.in_phase.ensures.small)) in
    let k : FitsSigned w128 c.quadrature.result = fits_signed_from_abs w128 c.quadrature.result (omega (arith, c.quadrature.ensures.small)) in
    let u : FitsSigned w128 c.by_magnitude-real_m.result =
    fits_signed_from_abs w128 c.by_magnitude-real_m.result (omega (arith, c.by_magnitude-real_m.ensures.most)) in
    let v : FitsSigned w128 c.by_magnitude-imaginary_m.result =
    fits_signed_from_abs w128 c.by_magnitude-imaginary_m.result
    (omega (arith, c.by_magnitude-imaginary_m.ensures.most)) in
    let d : c.nominal_times_magnitude-d.result ≡ nat_abs w.vn * clamped_magnitude w c.args.m = simp to_z-of_z at c.nominal_times_magnitude-d.ensures.value in
    let gv : c.admittance-g.result ≡ admittance w.p c.nominal_times_magnitude-d.result = simp to_z-of_z at c.admittance-g.ensures.value in
    let bv : c.admittance-b.result ≡ admittance w.q c.nominal_times_magnitude-d.result = simp to_z-of_z at c.admittance-b.ensures.value in
    let gs = gv ∙ ap (admittance w.p) d in
    let bs = bv ∙ ap (admittance w.q) d in
    let os = turned c.admittance-b.result ∙ ap neg_ℤ bs in
    let ns : c.in_phase.result ≡ in_phase w c.args.p c.args.q = simp to_z-of_z at c.in_phase.ensures.value in
    let ks : c.quadrature.result ≡ quadrature w c.args.p c.args.q = simp to_z-of_z at c.quadrature.ensures.value in
    let rm : c.by_magnitude-real_m.result ≡ by_magnitude w c.in_phase.result c.args.m = simp to_z-of_z at c.by_magnitude-real_m.ensures.value in
    let im : c.by_magnitude-imaginary_m.result ≡ by_magnitude w c.quadrature.result c.args.m = simp to_z-of_z at c.by_magnitude-imaginary_m.ensures.value in
    let rs = rm ∙ ap (λ z. by_magnitude w z c.args.m) ns in
    let is = im ∙ ap (λ z. by_magnitude w z c.args.m) ks in
    let ms = simp to_z-of_z at c.magnitude_slopes.ensures.row in
    simp to_z-of_z (λ i. record { real = slope_row (gs i) (bs i) (rs i); imaginary = slope_row (os i) (gs i) (is i); magnitude = ms i })
