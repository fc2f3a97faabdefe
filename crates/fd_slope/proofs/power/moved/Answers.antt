use Rattle.std.proofs.Common.{◌∙◌, ◌^◌}
use Rattle.fd_slope.specs.Radii.{at_scale}
use Rattle.fd_slope.proofs.SquareSizes.{least_positive, moved_most, moved_small, moved_within}
use Rattle.fd_slope.proofs.power.moved.Goals as goal

pub at_scale-requires-clause-positive : goal.at_scale-requires-clause-positive
at_scale-requires-clause-positive c = least_positive _ c.least_square.ensures.least

pub at_scale-requires-clause-divisor : goal.at_scale-requires-clause-divisor
at_scale-requires-clause-divisor c = c.least_square.ensures.most

pub at_scale-requires-clause-number : goal.at_scale-requires-clause-number
at_scale-requires-clause-number c = moved_most _ _ c.square_moves.ensures.most c.least_square.ensures.least

pub at_scale-requires-clause-small : goal.at_scale-requires-clause-small
at_scale-requires-clause-small c = moved_small _ _ c.square_moves.ensures.most c.least_square.ensures.least

pub returns-clause-value : goal.returns-clause-value
returns-clause-value c =
    c.at_scale.ensures.value ∙ (λ i. at_scale (c.square_moves.ensures.value i) (c.least_square.ensures.value i))

pub returns-clause-most : goal.returns-clause-most
returns-clause-most c =
    c.at_scale.ensures.within (2 ^ 84) (moved_within _ _ c.square_moves.ensures.most c.least_square.ensures.least)
