use Rattle.std.proofs.Common.{◌∙◌, ◌^◌}
use Rattle.fd_slope.specs.Radii.{at_scale, radius_row}
use Rattle.fd_slope.proofs.SquareSizes.{nominal_is, nominal_positive, nominal_most, width_number, width_small, width_within}
use Rattle.fd_slope.proofs.current.row_radii.Goals as goal

pub at_scale-requires : goal.at_scale-requires
at_scale-requires c =
    let n = nominal_positive c.args.load.now _ c.requires.load c.unsigned_abs-vn.ensures.value in
    record {
      positive = n;
      divisor = nominal_most c.args.load.now _ c.requires.load c.unsigned_abs-vn.ensures.value;
      number = width_number c.args.b.now.rp c.requires.around.widths.re;
      small = width_small c.args.b.now.rp _ c.requires.around.widths.re n;
    }

pub at_scale-requires-2 : goal.at_scale-requires-2
at_scale-requires-2 c =
    let n = nominal_positive c.args.load.now _ c.requires.load c.unsigned_abs-vn.ensures.value in
    record {
      positive = n;
      divisor = nominal_most c.args.load.now _ c.requires.load c.unsigned_abs-vn.ensures.value;
      number = width_number c.args.b.now.rq c.requires.around.widths.im;
      small = width_small c.args.b.now.rq _ c.requires.around.widths.im n;
    }

pub at_scale-requires-3 : goal.at_scale-requires-3
at_scale-requires-3 c =
    let n = nominal_positive c.args.load.now _ c.requires.load c.unsigned_abs-vn.ensures.value in
    record {
      positive = n;
      divisor = nominal_most c.args.load.now _ c.requires.load c.unsigned_abs-vn.ensures.value;
      number = width_number c.args.b.now.rm c.requires.around.widths.magnitude;
      small = width_small c.args.b.now.rm _ c.requires.around.widths.magnitude n;
    }

pub returns : goal.returns
returns c =
    let b = c.args.b.now in
    let r = c.requires.around.widths in
    let vn = nominal_is c.args.load.now _ c.requires.load c.unsigned_abs-vn.ensures.value in
    let n = nominal_positive c.args.load.now _ c.requires.load c.unsigned_abs-vn.ensures.value in
    let first = c.at_scale.ensures.value ∙ (λ i. at_scale b.rp (vn i)) in
    let second = c.at_scale-2.ensures.value ∙ (λ i. at_scale b.rq (vn i)) in
    let third = c.at_scale-3.ensures.value ∙ (λ i. at_scale b.rm (vn i)) in
    record {
      value = λ i. radius_row (first i) (second i) (third i);
      most = record {
        p = c.at_scale.ensures.within (2 ^ 100) (width_within b.rp _ r.re n);
        q = c.at_scale-2.ensures.within (2 ^ 100) (width_within b.rq _ r.im n);
        m = c.at_scale-3.ensures.within (2 ^ 100) (width_within b.rm _ r.magnitude n);
      };
    }
