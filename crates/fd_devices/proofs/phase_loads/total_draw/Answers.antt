use Rattle.std.proofs.Common.{◌∙◌, ◌+◌, arith, sym}
use Rattle.fd_xfmr.specs.fd_system.Loads.{draw_of}
use Rattle.fd_devices.proofs.Steps.{list_n_next}
use Rattle.fd_devices.proofs.phase_loads.total_draw.Goals as goal

pub loop-phase-preserved : goal.loop-phase-preserved
loop-phase-preserved c =
    let most = c.loop-phase.invariant.most in
    let one = c.draw_of-total.ensures.most in
    record {
      value = (λ i. c.loop-phase.invariant.value i + c.draw_of-total.ensures.value i)
          ∙ sym (list_n_next draw_of c.args.phases.now c.loop-phase.phase-index _ c.loop-phase-test.true);
      most = omega arith;
    }
