use Rattle.dss_layout.proofs.Adding.{phase_pushed}
use Rattle.dss_layout.proofs.unknowns.push_phases.Goals as goal

pub loop-before-preserved : goal.loop-before-preserved
loop-before-preserved c =
    phase_pushed _ _ _ _ _ c.loop-before.before c.loop-before.invariant c.in_ok-copied_name.ensures c.in_ok-push.ensures.items
