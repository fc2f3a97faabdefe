use Rattle.std.proofs.Common.{◌∙◌, ◌*◌, ◌^◌}
use Rattle.fd_slope.specs.Radii.{at_scale}
use Rattle.fd_load.proofs.CallerLemmas.{part_kept}
use Rattle.fd_slope.proofs.SquareSizes.{square_held, inside_held, part_square_fits, part_square_most, inside_small, inside_most}
use Rattle.fd_slope.proofs.power.part_ratio.Goals as goal

pub overflow_mul-part : goal.overflow_mul-part
overflow_mul-part c = part_square_fits _ c.greatest_part-part.ensures.most

pub clamped_square-requires-clause-p_most : goal.clamped_square-requires-clause-p_most
clamped_square-requires-clause-p_most c = part_kept c.args.b.now.p c.requires.around.voltages.re

pub clamped_square-requires-clause-q_most : goal.clamped_square-requires-clause-q_most
clamped_square-requires-clause-q_most c = part_kept c.args.b.now.q c.requires.around.voltages.im

pub at_scale-requires-clause-positive : goal.at_scale-requires-clause-positive
at_scale-requires-clause-positive c = c.clamped_square.ensures.positive

pub at_scale-requires-clause-divisor : goal.at_scale-requires-clause-divisor
at_scale-requires-clause-divisor c = c.clamped_square.ensures.most

pub at_scale-requires-clause-number : goal.at_scale-requires-clause-number
at_scale-requires-clause-number c = part_square_most _ c.greatest_part-part.ensures.most

pub at_scale-requires-clause-small : goal.at_scale-requires-clause-small
at_scale-requires-clause-small c =
    let b = c.args.b.now in
    let v = c.requires.around.voltages in
    let square = square_held c.args.load.now b.p b.q _ v.re v.im c.clamped_square.ensures.value in
    inside_small _ _ (inside_held _ _ _ _ c.greatest_part-part.ensures.value square c.requires.inside)

pub returns-clause-value : goal.returns-clause-value
returns-clause-value c =
    let b = c.args.b.now in
    let v = c.requires.around.voltages in
    let square = square_held c.args.load.now b.p b.q _ v.re v.im c.clamped_square.ensures.value in
    let part = c.greatest_part-part.ensures.value in
    c.at_scale.ensures.value ∙ (λ i. at_scale (part i * part i) (square i))

pub returns-clause-most : goal.returns-clause-most
returns-clause-most c =
    let b = c.args.b.now in
    let v = c.requires.around.voltages in
    let square = square_held c.args.load.now b.p b.q _ v.re v.im c.clamped_square.ensures.value in
    c.at_scale.ensures.within (2 ^ 40)
    (inside_most _ _ (inside_held _ _ _ _ c.greatest_part-part.ensures.value square c.requires.inside))
