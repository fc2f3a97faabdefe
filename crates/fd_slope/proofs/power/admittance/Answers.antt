use Rattle.std.proofs.Common.{◌∙◌, ◌^◌}
use Rattle.fd_slope.specs.Radii.{at_scale}
use Rattle.fd_load.proofs.CallerLemmas.{part_kept}
use Rattle.fd_slope.proofs.SquareSizes.{square_held, draw_most, draw_small, draw_within}
use Rattle.fd_slope.proofs.power.admittance.Goals as goal

pub clamped_square-requires-clause-p_most : goal.clamped_square-requires-clause-p_most
clamped_square-requires-clause-p_most c = part_kept c.args.b.now.p c.requires.around.voltages.re

pub clamped_square-requires-clause-q_most : goal.clamped_square-requires-clause-q_most
clamped_square-requires-clause-q_most c = part_kept c.args.b.now.q c.requires.around.voltages.im

pub at_scale-requires-clause-positive : goal.at_scale-requires-clause-positive
at_scale-requires-clause-positive c = c.clamped_square.ensures.positive

pub at_scale-requires-clause-divisor : goal.at_scale-requires-clause-divisor
at_scale-requires-clause-divisor c = c.clamped_square.ensures.most

pub at_scale-requires-clause-number : goal.at_scale-requires-clause-number
at_scale-requires-clause-number c = draw_most _ c.full_draw.ensures.most

pub at_scale-requires-clause-small : goal.at_scale-requires-clause-small
at_scale-requires-clause-small c = draw_small _ _ _ c.full_draw.ensures.admittance c.clamped_square.ensures.least

pub returns-clause-value : goal.returns-clause-value
returns-clause-value c =
    let b = c.args.b.now in
    let v = c.requires.around.voltages in
    let square = square_held c.args.load.now b.p b.q _ v.re v.im c.clamped_square.ensures.value in
    c.at_scale.ensures.value ∙ (λ i. at_scale (c.full_draw.ensures.value i) (square i))

pub returns-clause-most : goal.returns-clause-most
returns-clause-most c =
    c.at_scale.ensures.within (2 ^ 52)
    (draw_within _ _ _ c.full_draw.ensures.admittance c.clamped_square.ensures.least)
