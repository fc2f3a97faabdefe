use Rattle.std.proofs.Common.{◌≡◌, ◌∙◌, nat_abs, to_z, of_z, arith}
use Rattle.std.specs.Int.{w128}
use Rattle.fd_pattern.specs.fd_load.fd_exact.Rounding.{near_div}
use Rattle.fd_pattern.specs.fd_arith.Fix.{nearest}
use Rattle.fd_pattern.specs.fd_load.Current.{divisor, in_phase, quadrature}
use Rattle.fd_pattern.proofs.CallerLemmas.{in_phase_small, kept_units, quadrature_small}
use Rattle.fd_rungs.proofs.Drops.{kept_by}
use Rattle.fd_rungs.proofs.draws.load_current.Goals as goal
use Rattle.fd_rungs.proofs.draws.load_current.Goals.{After-units-2}

re_is : (c : After-units-2)
    → to_z w128 (of_z w128 c.units.result)
    ≡ near_div (in_phase c.args.load.now.load c.args.p c.args.q) (divisor c.args.load.now.load c.args.p c.args.q c.args.m)
re_is c =
    let w = c.args.load.now.load in
    let v = c.requires.voltages in
    let p = kept_by c.args.p (omega (arith, v.re)) in
    let q = kept_by c.args.q (omega (arith, v.im)) in
    let m = kept_by c.args.m (omega (arith, v.magnitude)) in
    kept_units c.current-current.result.re _ c.units.result
    (in_phase_small w c.args.p c.args.q c.args.m c.requires.load v)
    (c.current-current.ensures.real ∙ (λ i. nearest (in_phase w (p i) (q i)) (divisor w (p i) (q i) (m i))))
    c.units.ensures

im_is : (c : After-units-2)
    → to_z w128 (of_z w128 c.units-2.result)
    ≡ near_div (quadrature c.args.load.now.load c.args.p c.args.q) (divisor c.args.load.now.load c.args.p c.args.q c.args.m)
im_is c =
    let w = c.args.load.now.load in
    let v = c.requires.voltages in
    let p = kept_by c.args.p (omega (arith, v.re)) in
    let q = kept_by c.args.q (omega (arith, v.im)) in
    let m = kept_by c.args.m (omega (arith, v.magnitude)) in
    kept_units c.current-current.result.im _ c.units-2.result
    (quadrature_small w c.args.p c.args.q c.args.m c.requires.load v)
    (c.current-current.ensures.imaginary ∙ (λ i. nearest (quadrature w (p i) (q i)) (divisor w (p i) (q i) (m i))))
    c.units-2.ensures

pub returns : goal.returns
returns c =
    let w = c.args.load.now.load in
    let v = c.requires.voltages in
    record {
      re = re_is c;
      im = im_is c;
      re_small = rw (re_is c) (in_phase_small w c.args.p c.args.q c.args.m c.requires.load v);
      im_small = rw (im_is c) (quadrature_small w c.args.p c.args.q c.args.m c.requires.load v);
    }
