use Rattle.std.proofs.Common.{◌≡◌, ◌∙◌, ◌*◌, ◌^◌, neg_ℤ, nat_abs, arith, ap, FitsSigned}
use Rattle.std.specs.Int.{w128}
use Rattle.std.proofs.lemmas.Int.{to_z-of_z, fits_signed_from_abs}
use Rattle.fd_load.specs.Current.{clamped_magnitude}
use Rattle.fd_load.specs.Slopes.{fine_current, near_units, magnitude_is_inside}
use Rattle.fd_load.proofs.Bounds.{magnitude_most, taken}
use Rattle.fd_system.specs.fd_exact.ReadBack.{read_back, opposite_fits, opposite_most, opposite_is}
use Rattle.fd_load.proofs.slopes.by_magnitude.Goals as goal

pub near_units-requires-clause-small : goal.near_units-requires-clause-small
near_units-requires-clause-small c =
    let i : FitsSigned w128 c.current_over-current.result =
    fits_signed_from_abs w128 c.current_over-current.result (omega (arith, c.current_over-current.ensures.small)) in
    let s = magnitude_most c.current_over-current.result c.args.load.now.vlo c.clamped_magnitude-c.result
    c.current_over-current.ensures.small c.requires.load.low_least c.clamped_magnitude-c.ensures.least in
    simp to_z-of_z (omega (arith, s))

pub overflow_sub-result : goal.overflow_sub-result
overflow_sub-result c =
    let i : FitsSigned w128 c.current_over-current.result =
    fits_signed_from_abs w128 c.current_over-current.result (omega (arith, c.current_over-current.ensures.small)) in
    let s = magnitude_most c.current_over-current.result c.args.load.now.vlo c.clamped_magnitude-c.result
    c.current_over-current.ensures.small c.requires.load.low_least c.clamped_magnitude-c.ensures.least in
    let within = simp to_z-of_z at c.near_units.ensures.within in
    let most = within (2 ^ 73) s in
    let same = read_back c.near_units.result (2 ^ 73) most (omega arith) in
    rw same (opposite_fits c.near_units.result (2 ^ 73) most (omega arith))

pub returns : goal.returns
returns c =
    let w = c.args.load.now in
    let n : FitsSigned w128 c.args.n = c.ranges.n in
    let m : FitsSigned w128 c.args.m = c.ranges.m in
    let i : FitsSigned w128 c.current_over-current.result =
    fits_signed_from_abs w128 c.current_over-current.result (omega (arith, c.current_over-current.ensures.small)) in
    let s = magnitude_most c.current_over-current.result w.vlo c.clamped_magnitude-c.result
    c.current_over-current.ensures.small c.requires.load.low_least c.clamped_magnitude-c.ensures.least in
    let within = simp to_z-of_z at c.near_units.ensures.within in
    let most = within (2 ^ 73) s in
    let same = read_back c.near_units.result (2 ^ 73) most (omega arith) in
    let away = opposite_is c.near_units.result (2 ^ 73) most (omega arith) in
    let e = simp to_z-of_z at c.near_units.ensures.value in
    let f : c.current_over-current.result ≡ fine_current c.args.n c.nominal_times_magnitude-d.result = simp to_z-of_z at c.current_over-current.ensures.value in
    let g : c.nominal_times_magnitude-d.result ≡ nat_abs w.vn * clamped_magnitude w c.args.m = simp to_z-of_z at c.nominal_times_magnitude-d.ensures.value in
    let h : c.clamped_magnitude-c.result ≡ clamped_magnitude w c.args.m = simp to_z-of_z at c.clamped_magnitude-c.ensures.value in
    let t = simp to_z-of_z at c.if-not-magnitude_is_inside.ensures in
    let k : c.near_units.result ≡ near_units (fine_current c.args.n (nat_abs w.vn * clamped_magnitude w c.args.m)) (2 ^ 20 * clamped_magnitude w c.args.m) =
    e ∙ (λ j. near_units (f j) (2 ^ 20 * h j)) ∙ ap (λ d. near_units (fine_current c.args.n d) (2 ^ 20 * clamped_magnitude w c.args.m)) g in
    record {
      value = rw same (away ∙ ap neg_ℤ k ∙ taken (magnitude_is_inside w c.args.m) _ _ t);
      most = rw (same, away) (opposite_most c.near_units.result (2 ^ 73) most);
    }
