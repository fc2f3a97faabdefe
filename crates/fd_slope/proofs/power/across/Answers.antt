use Rattle.std.proofs.Common.{◌∙◌, ◌*◌, ◌^◌}
use Rattle.fd_slope.specs.Radii.{at_scale}
use Rattle.fd_slope.proofs.SquareSizes.{across_fits, across_most, across_small, across_within, least_positive}
use Rattle.fd_slope.proofs.power.across.Goals as goal

pub overflow_mul-greatest_part : goal.overflow_mul-greatest_part
overflow_mul-greatest_part c = across_fits _ _ c.greatest_part.ensures.most c.requires.width

pub at_scale-requires-clause-positive : goal.at_scale-requires-clause-positive
at_scale-requires-clause-positive c = least_positive _ c.least_square.ensures.least

pub at_scale-requires-clause-divisor : goal.at_scale-requires-clause-divisor
at_scale-requires-clause-divisor c = c.least_square.ensures.most

pub at_scale-requires-clause-number : goal.at_scale-requires-clause-number
at_scale-requires-clause-number c = across_most _ _ c.greatest_part.ensures.most c.requires.width

pub at_scale-requires-clause-small : goal.at_scale-requires-clause-small
at_scale-requires-clause-small c =
    across_small _ _ c.greatest_part.ensures.most c.requires.width _ c.least_square.ensures.least

pub returns-clause-value : goal.returns-clause-value
returns-clause-value c =
    c.at_scale.ensures.value
    ∙ (λ i. at_scale (c.greatest_part.ensures.value i * c.args.width) (c.least_square.ensures.value i))

pub returns-clause-most : goal.returns-clause-most
returns-clause-most c =
    c.at_scale.ensures.within (2 ^ 82)
    (across_within _ _ c.greatest_part.ensures.most c.requires.width _ c.least_square.ensures.least)
