-- What a settle stands on: a circuit with the powers of an hour, as the queue machine sees it.
use Rattle.std.specs.Prelude.{ℕ, List, [], length, map, replicate, Option, None}
use Rattle.fd_sample.specs.dss_model.declared.command.Blame.{Blame}
use Rattle.fd_sample.specs.dss_model.declared.words.ControlMode.{ControlMode}
use Rattle.fd_sample.specs.dss_model.declared.words.ControlMode.TheVariants as control_mode
use Rattle.fd_sample.specs.dss_circuit.Circuit.{CircuitView}
use Rattle.fd_sample.specs.fd_elements.declared.powers.LoadPower.{LoadPower}
use Rattle.fd_inject.specs.fd_pattern.Views.{NetworkView}
use Rattle.fd_sample.specs.fd_devices.Scripted.{circuit_network, devices_of}
use Rattle.fd_sample.specs.fd_devices.Settings.{Settings}
use Rattle.fd_sample.specs.fd_network.Faults.{range_blame}
use Rattle.fd_cert.specs.fd_enclosure.Sound.{Claim}
use Rattle.fd_sample.specs.fd_queue.Controls.{Positions}
use Rattle.fd_sample.specs.fd_queue.Machine.{Machine, Setup, rule_of}
use Rattle.fd_sample.specs.fd_queue.declared.timing.Timing.{Timing}
use Rattle.fd_sample.specs.fd_queue.declared.timing.Timing.TheVariants as timing
use Rattle.fd_sample.specs.declared.probe.Probe.{Probe}
use Rattle.fd_sample.specs.Circuits.{probes_of}
use Rattle.fd_sample.specs.Probes.{control_of}
use Rattle.fd_settle.specs.Sampling.{Sampling, look_over}

pub record Plant : Type 0 where
  pub setup : Setup
  -- the samples of the controls over the ball of a certified state, at these positions
  pub look : Positions → Claim → Sampling
  -- the network at these positions, and the element to blame where it is out of range
  pub network : Positions → NetworkView
  pub blame : Positions → Option Blame

-- ---- of a circuit

-- positions with the powers of the loads' phases
abbrev pub settings_at : List LoadPower → Positions → Settings
settings_at powers at = record { taps = at.taps; closed = at.closed; powers = powers }

-- in controlmode off no control takes part
abbrev pub taking_part : ControlMode → List Probe → List Probe
taking_part control_mode.Off ps = []
taking_part control_mode.Static ps = ps
taking_part control_mode.Time ps = ps

-- the controls that take part in its settles
abbrev pub controls_in : CircuitView → List Probe
controls_in c = taking_part c.options.controlmode (probes_of c.elements)

-- in controlmode time it goes on with the hours
abbrev pub timing_of : ControlMode → Timing
timing_of control_mode.Off = timing.Static
timing_of control_mode.Static = timing.Static
timing_of control_mode.Time = timing.Clock

abbrev pub setup_of : CircuitView → Setup
setup_of c = record { rule = rule_of (timing_of c.options.controlmode); controls = map control_of (controls_in c); limit = c.options.maxcontroliter }

unfoldable pub network_at : CircuitView → List LoadPower → Positions → NetworkView
network_at c powers at = circuit_network c (settings_at powers at)

unfoldable pub blame_at : CircuitView → List LoadPower → Positions → Option Blame
blame_at c powers at = range_blame c.elements (devices_of c (settings_at powers at))

abbrev pub plant_of : CircuitView → List LoadPower → Plant
plant_of c powers = record {
  setup = setup_of c;
  look = look_over (controls_in c);
  network = network_at c powers;
  blame = blame_at c powers;
}

-- the machine with an empty queue, no moves and no acts, at these positions, this time and these opening times of the
-- banks
abbrev pub started : CircuitView → Positions → ℕ → List (Option ℕ) → Machine
started c at now opened = record { at = at; now = now; opened = opened; moves = replicate (length (controls_in c)) None; queue = []; next = 0; made = 0 }
