use Rattle.std.proofs.Common.{pos, sym, subst}
use Rattle.std.specs.Int.{w128}
use Rattle.std.proofs.lemmas.Int.{to_z-of_z}
use Rattle.dss_model.specs.Ranges.{IsPower, IsBetween, ones}
use Rattle.fd_elements.proofs.Phases.{divisor_positive, divisor_most, divisor_fits, power_room, phase_is, phase_most}
use Rattle.fd_elements.proofs.powers.part.Goals as goal

pub at_point-requires-clause-total : goal.at_point-requires-clause-total
at_point-requires-clause-total c = subst IsPower (sym (to_z-of_z w128 c.args.total c.ranges.total)) c.requires.total

pub at_point-requires-clause-point : goal.at_point-requires-clause-point
at_point-requires-clause-point c =
    subst (IsBetween (pos 0) (ones 1000)) (sym (to_z-of_z w128 c.args.point c.ranges.point)) c.requires.point

pub overflow_mul-phases : goal.overflow_mul-phases
overflow_mul-phases c = record { fits = divisor_fits c.args.phases c.requires.phases }

pub near_quotient-requires-clause-positive : goal.near_quotient-requires-clause-positive
near_quotient-requires-clause-positive c = divisor_positive c.args.phases c.requires.phases

pub near_quotient-requires-clause-divisor_fits : goal.near_quotient-requires-clause-divisor_fits
near_quotient-requires-clause-divisor_fits c = divisor_most c.args.phases c.requires.phases

pub near_quotient-requires-clause-size_fits : goal.near_quotient-requires-clause-size_fits
near_quotient-requires-clause-size_fits c = power_room c.at_point.result c.at_point.ensures.most

pub returns-clause-value : goal.returns-clause-value
returns-clause-value c =
    phase_is c.args.total c.args.point c.at_point.result c.near_quotient.result c.args.phases c.ranges.total
    c.ranges.point c.requires.phases c.at_point.ensures.value c.at_point.ensures.most c.near_quotient.ensures.value

pub returns-clause-most : goal.returns-clause-most
returns-clause-most c =
    phase_most c.args.total c.args.point c.at_point.result c.near_quotient.result c.args.phases c.ranges.total
    c.ranges.point c.requires.phases c.at_point.ensures.value c.at_point.ensures.most c.near_quotient.ensures.value
