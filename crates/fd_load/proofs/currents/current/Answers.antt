use Rattle.fd_load.proofs.VoltageSizes.{part_kept, divisor_above, divisor_below}
use Rattle.fd_load.proofs.currents.current.Goals as goal

pub divisor-d-requires-clause-p_most : goal.divisor-d-requires-clause-p_most
divisor-d-requires-clause-p_most g c = part_kept c.args.p c.requires.voltages.re

pub divisor-d-requires-clause-q_most : goal.divisor-d-requires-clause-q_most
divisor-d-requires-clause-q_most g c = part_kept c.args.q c.requires.voltages.im

pub in_phase-requires-clause-p_most : goal.in_phase-requires-clause-p_most
in_phase-requires-clause-p_most g c = part_kept c.args.p c.requires.voltages.re

pub in_phase-requires-clause-q_most : goal.in_phase-requires-clause-q_most
in_phase-requires-clause-q_most g c = part_kept c.args.q c.requires.voltages.im

pub quadrature-requires-clause-p_most : goal.quadrature-requires-clause-p_most
quadrature-requires-clause-p_most g c = part_kept c.args.p c.requires.voltages.re

pub quadrature-requires-clause-q_most : goal.quadrature-requires-clause-q_most
quadrature-requires-clause-q_most g c = part_kept c.args.q c.requires.voltages.im

pub quotient-requires-clause-positive : goal.quotient-requires-clause-positive
quotient-requires-clause-positive g c =
    let d = c.divisor-d.ensures in
    divisor_above c.args.load.now c.args.p c.args.q c.args.m c.divisor-d.result d.value d.positive d.most

pub quotient-requires-clause-most : goal.quotient-requires-clause-most
quotient-requires-clause-most g c =
    let d = c.divisor-d.ensures in
    divisor_below c.args.load.now c.args.p c.args.q c.args.m c.divisor-d.result d.value d.positive d.most

pub quotient-requires-2-clause-positive : goal.quotient-requires-2-clause-positive
quotient-requires-2-clause-positive g c =
    let d = c.divisor-d.ensures in
    divisor_above c.args.load.now c.args.p c.args.q c.args.m c.divisor-d.result d.value d.positive d.most

pub quotient-requires-2-clause-most : goal.quotient-requires-2-clause-most
quotient-requires-2-clause-most g c =
    let d = c.divisor-d.ensures in
    divisor_below c.args.load.now c.args.p c.args.q c.args.m c.divisor-d.result d.value d.positive d.most
