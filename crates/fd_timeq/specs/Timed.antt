-- The hours of a Solve in controlmode time, in the words of the clock.
use Rattle.std.specs.Prelude.{◌≡◌, ℕ, List, map}
use Rattle.fd_daily.specs.fd_settings.dss_model.declared.words.ControlMode.TheVariants as control_mode
use Rattle.fd_daily.specs.fd_settings.dss_circuit.Circuit.{CircuitView}
use Rattle.fd_daily.specs.fd_settings.Hours.{hour_powers}
use Rattle.fd_daily.specs.fd_queue.Machine.{Machine, Setup, clock_rule}
use Rattle.fd_daily.specs.fd_sample.Circuits.{probes_of}
use Rattle.fd_daily.specs.fd_sample.Probes.{control_of}
use Rattle.fd_daily.specs.fd_settle.Plant.{Plant, blame_at, network_at}
use Rattle.fd_daily.specs.fd_settle.Rounds.{settled}
use Rattle.fd_daily.specs.fd_settle.Sampling.{look_over}
use Rattle.fd_daily.specs.fd_settle.Settle.{Settle}
use Rattle.fd_daily.specs.fd_settle.declared.round.Round.{Round}
use Rattle.fd_daily.specs.Hours.{time_of}
use Rattle.fd_daily.specs.Run.{Hour}

abbrev pub IsInTimeMode : CircuitView → Type 0
IsInTimeMode c = c.options.controlmode ≡ control_mode.Time

-- The machine with which an hour begins, where the hour before left this one: the time is the hour's, and no act is
-- counted. All else is as it was: positions, opening times, latest moves, the queue and its next sequence number.
abbrev pub carried : ℕ → Machine → Machine
carried hour m = record m { now = time_of hour; made = 0 }

-- each control of a circuit takes part, and an entry is due from its time on and acts at the time of the machine
abbrev pub timed_setup : CircuitView → Setup
timed_setup c = record { rule = clock_rule; controls = map control_of (probes_of c.elements); limit = c.options.maxcontroliter }

-- the circuit with the powers of an hour, as the queue machine sees it
abbrev pub timed_plant : CircuitView → ℕ → Plant
timed_plant c hour = record {
  setup = timed_setup c;
  look = look_over (probes_of c.elements);
  network = network_at c (hour_powers c.elements hour);
  blame = blame_at c (hour_powers c.elements hour);
}

-- the settle of an hour over these rounds, where the hour before left this machine
abbrev pub timed_hour : CircuitView → ℕ → Machine → List Round → Settle
timed_hour c hour m rounds = settled (timed_plant c hour) (carried hour m) rounds

-- an hour of a run
abbrev pub timed : {C : Type 0} → (ℕ → C) → CircuitView → ℕ → Hour C
timed at_hour c hour = record { circuit = at_hour hour; setup = timed_setup c; start = carried hour }
