use Rattle.std.proofs.Common.{arith}
use Rattle.dss_ready.proofs.Joining.{joined_phases}
use Rattle.dss_ready.proofs.feeding.join_phases.Goals as goal

pub returns : goal.returns
returns c =
    joined_phases c.args.layout.now.nodes _ c.args.labels.now _ _ _ _ c.loop-phase.phase c.as_slice-first.ensures c.as_slice-second.ensures
    (omega (arith, c.min-phase-end.ensures, c.loop-phase-test.false)) c.loop-phase.invariant
