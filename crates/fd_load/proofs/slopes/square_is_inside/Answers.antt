use Rattle.fd_load.proofs.VoltageSizes.{part_kept, square_held, low_is, high_is, low_most, high_most, limit_square_fits, within_limits, below_limits, part_inside, part_below}
use Rattle.fd_load.proofs.slopes.square_is_inside.Goals as goal

pub square-square-requires-clause-p_most : goal.square-square-requires-clause-p_most
square-square-requires-clause-p_most c = part_kept c.args.p c.requires.p_most

pub square-square-requires-clause-q_most : goal.square-square-requires-clause-q_most
square-square-requires-clause-q_most c = part_kept c.args.q c.requires.q_most

pub overflow_mul-low : goal.overflow_mul-low
overflow_mul-low c =
    limit_square_fits _ (low_most c.args.load.now c.requires.load _ c.unsigned_abs-low.ensures.value)

pub overflow_mul-result : goal.overflow_mul-result
overflow_mul-result c =
    limit_square_fits _ (high_most c.args.load.now c.requires.load _ c.unsigned_abs-high.ensures.value)

pub returns-then-low-square-clause-value : goal.returns-then-low-square-clause-value
returns-then-low-square-clause-value c =
    let low = low_is c.args.load.now c.requires.load _ c.unsigned_abs-low.ensures.value in
    let high = high_is c.args.load.now c.requires.load _ c.unsigned_abs-high.ensures.value in
    let square = square_held c.args.p c.args.q _ c.requires.p_most c.requires.q_most c.square-square.ensures.value in
    within_limits c.args.p c.args.q _ _ _ _ _ low high square c.if-low-square.true

pub returns-then-low-square-clause-inside : goal.returns-then-low-square-clause-inside
returns-then-low-square-clause-inside c =
    let low = low_is c.args.load.now c.requires.load _ c.unsigned_abs-low.ensures.value in
    let high = high_is c.args.load.now c.requires.load _ c.unsigned_abs-high.ensures.value in
    let square = square_held c.args.p c.args.q _ c.requires.p_most c.requires.q_most c.square-square.ensures.value in
    part_inside c.args.p c.args.q _ _ _ _ _ low high square

pub returns-else-low-square-clause-value : goal.returns-else-low-square-clause-value
returns-else-low-square-clause-value c =
    let low = low_is c.args.load.now c.requires.load _ c.unsigned_abs-low.ensures.value in
    let high = high_is c.args.load.now c.requires.load _ c.unsigned_abs-high.ensures.value in
    let square = square_held c.args.p c.args.q _ c.requires.p_most c.requires.q_most c.square-square.ensures.value in
    below_limits c.args.p c.args.q _ _ _ _ _ low high square c.if-low-square.false

pub returns-else-low-square-clause-inside : goal.returns-else-low-square-clause-inside
returns-else-low-square-clause-inside c = λ t. part_below _ _ c.if-low-square.false t
