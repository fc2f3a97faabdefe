use Rattle.std.proofs.Common.{◌≡◌, ◌∙◌, suc, arith, ◌+◌, ◌++◌, ap}
use Rattle.fd_xfmr.specs.fd_system.Contributions.{concat_below}
use Rattle.fd_devices.specs.Scripted.{phase_loads}
use Rattle.fd_devices.proofs.PartLoads.{few_phases}
use Rattle.fd_devices.proofs.phase_loads.load_phases_into.Goals as goal

pub add_phase-requires-clause-room : goal.add_phase-requires-clause-room
add_phase-requires-clause-room c =
    let phases = few_phases c.args.load.now.phases c.requires.range.phases in
    omega (arith, c.loop-k.invariant.few, c.loop-k.invariant.capacity, c.requires.room, phases, c.loop-k-test.true)

pub loop-k-preserved : goal.loop-k-preserved
loop-k-preserved c =
    let next : suc c.loop-k.k ≡ c.loop-k.k + 1 = omega arith in record {
      phases = c.add_phase.ensures.items
          ∙ (λ i. c.loop-k.invariant.phases i ++ phase_loads c.args.load.now c.args.nodes.now c.args.magnitude c.args.powers.now c.loop-k.k)
          ∙ ap (concat_below (phase_loads c.args.load.now c.args.nodes.now c.args.magnitude c.args.powers.now)) next;
      usable = c.add_phase.ensures.usable;
      few = omega (arith, c.add_phase.ensures.few, c.loop-k.invariant.few);
      capacity = c.add_phase.ensures.capacity ∙ c.loop-k.invariant.capacity;
    }
