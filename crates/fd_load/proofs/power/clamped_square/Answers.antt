use Rattle.std.proofs.Common.{◌∙◌, ◌*◌}
use Rattle.fd_system.specs.Loads.{clamp}
use Rattle.fd_load.proofs.VoltageSizes.{part_kept, square_held, low_is, high_is, low_most, high_most, low_least, in_order, limit_square_fits, squares_in_order, square_least, square_positive, square_most}
use Rattle.fd_load.proofs.power.clamped_square.Goals as goal

pub square-requires-clause-p_most : goal.square-requires-clause-p_most
square-requires-clause-p_most c = part_kept c.args.p c.requires.p_most

pub square-requires-clause-q_most : goal.square-requires-clause-q_most
square-requires-clause-q_most c = part_kept c.args.q c.requires.q_most

pub overflow_mul-low : goal.overflow_mul-low
overflow_mul-low c =
    limit_square_fits _ (low_most c.args.load.now c.requires.load _ c.unsigned_abs-low.ensures.value)

pub overflow_mul-high : goal.overflow_mul-high
overflow_mul-high c =
    limit_square_fits _ (high_most c.args.load.now c.requires.load _ c.unsigned_abs-high.ensures.value)

pub clamped-requires : goal.clamped-requires
clamped-requires c = record {
  order = squares_in_order _ _ (in_order c.args.load.now c.requires.load _ _ c.unsigned_abs-low.ensures.value
      c.unsigned_abs-high.ensures.value);
}

pub returns : goal.returns
returns c =
    let w = c.args.load.now in
    let l = c.requires.load in
    let low = low_is w l _ c.unsigned_abs-low.ensures.value in
    let high = high_is w l _ c.unsigned_abs-high.ensures.value in
    let square = square_held c.args.p c.args.q _ c.requires.p_most c.requires.q_most c.square.ensures.value in
    record {
      value = c.clamped.ensures.value ∙ (λ i. clamp (square i) (low i * low i) (high i * high i));
      least = square_least _ _ _ low c.clamped.ensures.least;
      positive = square_positive _ _ (low_least w l _ c.unsigned_abs-low.ensures.value) c.clamped.ensures.least;
      most = square_most _ _ (high_most w l _ c.unsigned_abs-high.ensures.value) c.clamped.ensures.most;
    }
