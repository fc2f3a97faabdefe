use Rattle.std.proofs.Common.{◌-◌}
use Rattle.fd_sample.specs.Probes.{positions_in}
use Rattle.fd_settle.specs.Contract.{limits_of}
use Rattle.fd_settle.specs.Controls.{HasNumbers, machine_of}
use Rattle.fd_settle.specs.Start.{IsNetworkAt}
use Rattle.fd_settle.proofs.Underway.{IsKept}
use Rattle.fd_settle.proofs.settling.settle.Given as goal

abbrev pub invariant-loop-certified : goal.invariant-loop-certified
invariant-loop-certified g l = record {
  journal :
      IsKept (λ v. g.V.Solver.gives v (limits_of l.fn.circuit.options)) g.K.Journal.holds l.fn.circuit l.fn.powers.loads
      l.fn.solver (machine_of l.fn.at l.fn.clock l.fn.controls) l.fn.rounds l.rounds l.at l.clock l.controls l.solver;
  network : IsNetworkAt l.fn.circuit l.fn.powers.loads (positions_in l.at) l.net;
  numbers : HasNumbers l.fn.controls.queue.next l.controls;
}

-- the acts that are still allowed
abbrev pub decreases-loop-certified : goal.decreases-loop-certified
decreases-loop-certified g l = l.fn.circuit.options.maxcontroliter - l.controls.made
