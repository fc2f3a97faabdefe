use Rattle.fd_slope.proofs.SquareSizes.{part_is, part_most, double_fits, width_fits, move_fits, moves_most, moves_fit, moves_are}
use Rattle.fd_slope.proofs.power.square_moves.Goals as goal

pub overflow_mul-result : goal.overflow_mul-result
overflow_mul-result c =
    let a = c.requires.around in
    double_fits c.unsigned_abs.result c.args.b.now.rp
    (part_most c.args.b.now.p _ a.voltages.re c.unsigned_abs.ensures.value) a.widths.re

pub overflow_add-result : goal.overflow_add-result
overflow_add-result c =
    let a = c.requires.around in
    width_fits c.unsigned_abs.result c.args.b.now.rp
    (part_most c.args.b.now.p _ a.voltages.re c.unsigned_abs.ensures.value) a.widths.re

pub overflow_mul-result-2 : goal.overflow_mul-result-2
overflow_mul-result-2 c =
    let a = c.requires.around in
    move_fits c.unsigned_abs.result c.args.b.now.rp
    (part_most c.args.b.now.p _ a.voltages.re c.unsigned_abs.ensures.value) a.widths.re

pub overflow_mul-result-3 : goal.overflow_mul-result-3
overflow_mul-result-3 c =
    let a = c.requires.around in
    double_fits c.unsigned_abs-2.result c.args.b.now.rq
    (part_most c.args.b.now.q _ a.voltages.im c.unsigned_abs-2.ensures.value) a.widths.im

pub overflow_add-result-2 : goal.overflow_add-result-2
overflow_add-result-2 c =
    let a = c.requires.around in
    width_fits c.unsigned_abs-2.result c.args.b.now.rq
    (part_most c.args.b.now.q _ a.voltages.im c.unsigned_abs-2.ensures.value) a.widths.im

pub overflow_mul-result-4 : goal.overflow_mul-result-4
overflow_mul-result-4 c =
    let a = c.requires.around in
    move_fits c.unsigned_abs-2.result c.args.b.now.rq
    (part_most c.args.b.now.q _ a.voltages.im c.unsigned_abs-2.ensures.value) a.widths.im

pub overflow_add-result-3 : goal.overflow_add-result-3
overflow_add-result-3 c =
    let a = c.requires.around in
    let b = c.args.b.now in
    moves_fit c.unsigned_abs.result c.unsigned_abs-2.result b.rp b.rq
    (part_most b.p _ a.voltages.re c.unsigned_abs.ensures.value)
    (part_most b.q _ a.voltages.im c.unsigned_abs-2.ensures.value) a.widths.re a.widths.im

pub returns : goal.returns
returns c =
    let a = c.requires.around in
    let b = c.args.b.now in
    record {
      value = moves_are b.p b.q _ _ b.rp b.rq (part_is b.p _ a.voltages.re c.unsigned_abs.ensures.value)
          (part_is b.q _ a.voltages.im c.unsigned_abs-2.ensures.value);
      most = moves_most _ _ b.rp b.rq (part_most b.p _ a.voltages.re c.unsigned_abs.ensures.value)
          (part_most b.q _ a.voltages.im c.unsigned_abs-2.ensures.value) a.widths.re a.widths.im;
    }
