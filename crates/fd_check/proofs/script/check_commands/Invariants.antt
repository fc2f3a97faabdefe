use Rattle.std.proofs.Common.{◌+◌, ◌*◌, ◌≤◌, drop, length}
use Rattle.std.specs.Prelude.{All}
use Rattle.dss_commands.specs.dss_circuit.Circuit.{empty_circuit}
use Rattle.fd_daily.specs.fd_sample.Probes.{positions_in}
use Rattle.fd_daily.specs.fd_xfmr.Leakage.{AreTaps}
use Rattle.fd_daily.specs.Underway.{no_positions}
use Rattle.fd_check.specs.Checking.{open_solves}
use Rattle.fd_check.specs.Comes.{Leads}
use Rattle.fd_check.specs.Commands.{AreAccepted, most_solves, solves_in}
use Rattle.fd_check.proofs.script.check_commands.Given as goal

-- the commands that are left go on from this circuit, and what comes of them there comes of all from the first
abbrev pub invariant-loop-command : goal.invariant-loop-command
invariant-loop-command l = record {
  accepted : AreAccepted l.circuit (drop l.command-index l.commands);
  few : l.settled + 8761 * length (solves_in l.circuit (drop l.command-index l.commands)) ≤ 8761 * most_solves;
  taps : All AreTaps l.at.taps;
  leads : Leads l.initial.reader (open_solves (solves_in empty_circuit l.commands) no_positions 0) l.reader
      (open_solves (solves_in l.circuit (drop l.command-index l.commands)) (positions_in l.at) l.settled);
}
