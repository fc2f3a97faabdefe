use Rattle.fd_load.proofs.CallerLemmas.{part_kept}
use Rattle.fd_slope.proofs.SquareSizes.{greater_least, greater_most}
use Rattle.fd_slope.proofs.power.least_square.Goals as goal

pub clamped_square-requires-clause-p_most : goal.clamped_square-requires-clause-p_most
clamped_square-requires-clause-p_most c = part_kept c.args.b.now.p c.requires.around.voltages.re

pub clamped_square-requires-clause-q_most : goal.clamped_square-requires-clause-q_most
clamped_square-requires-clause-q_most c = part_kept c.args.b.now.q c.requires.around.voltages.im

pub returns-clause-least : goal.returns-clause-least
returns-clause-least c = greater_least _ _ _ c.greater.ensures c.low_square.ensures.least

pub returns-clause-most : goal.returns-clause-most
returns-clause-most c =
    greater_most _ _ _ _ _ c.greater.ensures c.saturating_sub-left.ensures c.low_square.ensures.most
    c.clamped_square.ensures.most
