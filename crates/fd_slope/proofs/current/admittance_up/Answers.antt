use Rattle.std.proofs.Common.{◌^◌}
use Rattle.fd_slope.proofs.SquareSizes.{draw_most, draw_small, draw_within}
use Rattle.fd_slope.proofs.current.admittance_up.Goals as goal

pub at_scale-requires-clause-positive : goal.at_scale-requires-clause-positive
at_scale-requires-clause-positive c = c.nominal_times_magnitude.ensures.positive

pub at_scale-requires-clause-divisor : goal.at_scale-requires-clause-divisor
at_scale-requires-clause-divisor c = c.nominal_times_magnitude.ensures.most

pub at_scale-requires-clause-number : goal.at_scale-requires-clause-number
at_scale-requires-clause-number c = draw_most _ c.full_draw.ensures.most

pub at_scale-requires-clause-small : goal.at_scale-requires-clause-small
at_scale-requires-clause-small c =
    draw_small _ _ _ c.full_draw.ensures.admittance c.nominal_times_magnitude.ensures.least

pub returns-clause-most : goal.returns-clause-most
returns-clause-most c =
    c.at_scale.ensures.within (2 ^ 52)
    (draw_within _ _ _ c.full_draw.ensures.admittance c.nominal_times_magnitude.ensures.least)
