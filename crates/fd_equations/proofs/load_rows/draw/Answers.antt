use Rattle.std.proofs.Common.{◌≡◌, ◌∙◌, nat_abs, to_z, of_z, arith}
use Rattle.std.specs.Int.{w128}
use Rattle.fd_mat.specs.fd_exact.Rounding.{near_div}
use Rattle.fd_pattern.specs.fd_arith.Fix.{nearest}
use Rattle.fd_pattern.specs.fd_load.Current.{divisor, excess, in_phase, quadrature}
use Rattle.fd_pattern.proofs.CallerLemmas.{excess_small, in_phase_small, kept_units, quadrature_small}
use Rattle.fd_equations.proofs.Sizes.{kept_by}
use Rattle.fd_equations.proofs.load_rows.draw.Goals as goal
use Rattle.fd_equations.proofs.load_rows.draw.Goals.{After-units-3}

re_is : (c : After-units-3)
    → to_z w128 (of_z w128 c.units.result)
    ≡ near_div (in_phase c.args.load.now c.args.at.re c.args.at.im)
    (divisor c.args.load.now c.args.at.re c.args.at.im c.args.at.magnitude)
re_is c =
    let w = c.args.load.now in
    let at = c.args.at in
    let v = c.requires.voltages in
    let p = kept_by at.re (omega (arith, v.re)) in
    let q = kept_by at.im (omega (arith, v.im)) in
    let m = kept_by at.magnitude (omega (arith, v.magnitude)) in
    kept_units c.current-current.result.re _ c.units.result
    (in_phase_small w at.re at.im at.magnitude c.requires.load v)
    (c.current-current.ensures.real ∙ (λ i. nearest (in_phase w (p i) (q i)) (divisor w (p i) (q i) (m i))))
    c.units.ensures

im_is : (c : After-units-3)
    → to_z w128 (of_z w128 c.units-2.result)
    ≡ near_div (quadrature c.args.load.now c.args.at.re c.args.at.im)
    (divisor c.args.load.now c.args.at.re c.args.at.im c.args.at.magnitude)
im_is c =
    let w = c.args.load.now in
    let at = c.args.at in
    let v = c.requires.voltages in
    let p = kept_by at.re (omega (arith, v.re)) in
    let q = kept_by at.im (omega (arith, v.im)) in
    let m = kept_by at.magnitude (omega (arith, v.magnitude)) in
    kept_units c.current-current.result.im _ c.units-2.result
    (quadrature_small w at.re at.im at.magnitude c.requires.load v)
    (c.current-current.ensures.imaginary ∙ (λ i. nearest (quadrature w (p i) (q i)) (divisor w (p i) (q i) (m i))))
    c.units-2.ensures

magnitude_is : (c : After-units-3)
    → to_z w128 (of_z w128 c.units-3.result)
    ≡ near_div (excess c.args.at.re c.args.at.im c.args.at.magnitude) (nat_abs c.args.load.now.vn)
magnitude_is c =
    let w = c.args.load.now in
    let at = c.args.at in
    let v = c.requires.voltages in
    let p = kept_by at.re (omega (arith, v.re)) in
    let q = kept_by at.im (omega (arith, v.im)) in
    let m = kept_by at.magnitude (omega (arith, v.magnitude)) in
    kept_units c.magnitude_row-magnitude.result _ c.units-3.result
    (excess_small w at.re at.im at.magnitude c.requires.load v)
    (c.magnitude_row-magnitude.ensures.value ∙ (λ i. nearest (excess (p i) (q i) (m i)) (nat_abs w.vn)))
    c.units-3.ensures

pub returns : goal.returns
returns c =
    let w = c.args.load.now in
    let at = c.args.at in
    let v = c.requires.voltages in
    record {
      re = re_is c;
      im = im_is c;
      magnitude = magnitude_is c;
      re_small = rw (re_is c) (in_phase_small w at.re at.im at.magnitude c.requires.load v);
      im_small = rw (im_is c) (quadrature_small w at.re at.im at.magnitude c.requires.load v);
      magnitude_small = rw (magnitude_is c) (excess_small w at.re at.im at.magnitude c.requires.load v);
    }
