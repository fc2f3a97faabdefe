-- The controls of a settle at work: what they show of the queue machine, and what they keep to.
use Rattle.std.specs.Prelude.{◌≡◌, ℕ, ◌+◌, ◌*◌, ◌<◌, ◌≤◌, ◌^◌, false, Bool, List, [], length, map, get_or, All, Option, None, vec_capacity, Result, Ok, Err, Some}
use Rattle.std.specs.List.{AllByRecursion}
use Rattle.fd_sample.specs.fd_xfmr.Leakage.{AreTaps}
use Rattle.fd_sample.specs.fd_capctl.CapState.{IsEarly}
use Rattle.fd_sample.specs.fd_devices.declared.settings.Positions.{Positions as CodePositions}
use Rattle.fd_sample.specs.fd_queue.Machine.{Machine, Setup, Act, rule_of}
use Rattle.fd_sample.specs.fd_queue.MachineLaws.{IsQueueOf}
use Rattle.fd_sample.specs.fd_queue.Queue.{InPairs}
use Rattle.fd_sample.specs.fd_queue.declared.entry.Entry.{Entry}
use Rattle.fd_sample.specs.declared.probe.Probe.{Probe}
use Rattle.fd_sample.specs.declared.probe.Probe.TheVariants as probe
use Rattle.fd_sample.specs.Circuits.{AreApart, HasRange, HasTimes}
use Rattle.fd_sample.specs.Probes.{HasDevice, IsProbe, control_of, positions_in}
use Rattle.fd_sample.specs.dss_circuit.Circuit.{CircuitView}
use Rattle.fd_sample.specs.dss_layout.Layout.{layout_of, size_of}
use Rattle.fd_settle.specs.declared.clock.Clock.{Clock}
use Rattle.fd_settle.specs.declared.controls.Controls.{Controls}
use Rattle.fd_settle.specs.declared.state.ControlState.{ControlState}
use Rattle.fd_settle.specs.declared.state.ControlState.TheVariants as state
use Rattle.fd_settle.specs.declared.fault.SettleFault.{SettleFault}
use Rattle.fd_settle.specs.declared.fault.SettleFault.TheVariants as fault
use Rattle.fd_settle.specs.declared.progress.Progress.{Progress}
use Rattle.fd_settle.specs.declared.progress.Progress.TheVariants as progress
use Rattle.fd_settle.specs.declared.round.Act.{Act as Made}
use Rattle.fd_settle.specs.Plant.{controls_in, timing_of}
use Rattle.fd_settle.specs.Settle.{Outcome, Ends, Moves, Settled, Limited, Undecidable}

-- ---- what they show

abbrev pub probe_in : ControlState → Probe
probe_in (state.Regulator p s) = probe.Regulator p
probe_in (state.Bank p s) = probe.Bank p

abbrev pub probes_in : Controls → List Probe
probes_in c = map probe_in c.states.items

-- the latest move of a control
abbrev pub moved_in : ControlState → Option Bool
moved_in (state.Regulator p s) = s.moved
moved_in (state.Bank p s) = s.moved

abbrev pub setup_in : Controls → Setup
setup_in c = record { rule = rule_of c.timing; controls = map control_of (probes_in c); limit = c.limit }

abbrev pub machine_of : CodePositions → Clock → Controls → Machine
machine_of at clock c = record {
  at = positions_in at;
  now = clock.now;
  opened = clock.opened.items;
  moves = map moved_in c.states.items;
  queue = c.queue.entries;
  next = c.queue.next;
  made = c.made;
}

-- ---- what a step comes to

abbrev pub shown : Progress → List Act → Machine → Outcome
shown progress.Moved acts m = Moves acts m
shown progress.Settled acts m = Ends Settled m
shown (progress.Limited made) acts m = Ends Limited m
shown (progress.Undecided control low high edge) acts m = Ends (Undecidable control (record { low = low; high = high; edge = edge })) m

-- how a round ends the settle, if it does
abbrev pub end_told : {F : Type 0} → Progress → Option (Result Unit (SettleFault F))
end_told progress.Moved = None
end_told progress.Settled = Some (Ok tt)
end_told (progress.Limited acts) = Some (Err (fault.ControlLimit acts))
end_told (progress.Undecided control low high edge) = Some (Err (fault.Undecided control low high edge))

-- there are acts only where devices were moved, and the number of acts is told with the limit
abbrev pub TellsActs : Progress → List Made → Machine → Type 0
TellsActs progress.Moved acts m = Unit {0}
TellsActs progress.Settled acts m = acts ≡ []
TellsActs (progress.Limited made) acts m = (acts ≡ []) × (made ≡ m.made)
TellsActs (progress.Undecided control low high edge) acts m = acts ≡ []

-- ---- what they keep to (over n unknowns)

-- the state of control k has the control's settings, and the bank's last opening time
abbrev pub IsStateOf : List (Option ℕ) → ℕ → ControlState → Type 0
IsStateOf opened k (state.Regulator p s) =
    (s.control ≡ k) × ((s.is_second ≡ p.is_second) × ((s.tap_step ≡ p.tap_step) × ((s.delay ≡ p.delay) × (s.tap_delay ≡ p.tapdelay))))
IsStateOf opened k (state.Bank p s) =
    (s.control ≡ k) × ((s.delay ≡ p.delay) × ((s.delay_off ≡ p.delayoff) × ((s.dead_time ≡ p.deadtime) × (s.opened ≡ get_or opened p.bank None))))

abbrev pub AreStates : List (Option ℕ) → List ControlState → Type 0
AreStates opened ss = (k : ℕ) (d : ControlState) → k < length ss → IsStateOf opened k (get_or ss k d)

-- an entry that opens a bank acts early, since no dead time delays it
abbrev pub OpensEarly : Entry → Type 0
OpensEarly e = e.up ≡ false → e.time < 2 ^ 62

pub record AreControls (n : ℕ) (at : CodePositions) (clock : Clock) (c : Controls) : Type 0 where
  pub places : All (IsProbe n) (probes_in c)
  pub devices : All (HasDevice (positions_in at)) (probes_in c)
  pub times : All HasTimes (probes_in c)
  pub ranges : All HasRange (probes_in c)
  pub apart : InPairs AreApart (probes_in c)
  pub few : length c.states.items < 2 ^ 18
  pub taps : All AreTaps at.taps
  pub opened_each : length clock.opened.items ≡ length at.closed
  pub early : All IsEarly clock.opened.items
  pub now : clock.now < 2 ^ 60
  pub states : AreStates clock.opened.items c.states.items
  pub queue : IsQueueOf (length c.states.items) c.queue.next c.queue.entries
  pub openings : AllByRecursion OpensEarly c.queue.entries
  pub room : length c.states.items ≤ c.queue.spare + length c.queue.entries
  pub due_room : length c.states.items ≤ vec_capacity c.due
  pub verdict_room : length c.states.items ≤ vec_capacity c.verdicts
  pub limit : c.limit ≤ 100
  pub made : c.made ≤ c.limit

-- from this sequence number on at most one for each control and each act so far
abbrev pub HasNumbers : ℕ → Controls → Type 0
HasNumbers first c = c.queue.next ≤ first + c.made * length c.states.items

abbrev pub IfMoved : Progress → Type 0 → Type 0
IfMoved progress.Moved P = P
IfMoved progress.Settled P = Unit {0}
IfMoved (progress.Limited made) P = Unit {0}
IfMoved (progress.Undecided control low high edge) P = Unit {0}

-- The controls of a circuit at work, between two rounds of a settle or two hours of a Solve.
pub record AreAtWork (c : CircuitView) (at : CodePositions) (clock : Clock) (controls : Controls) : Type 0 where
  pub probes : probes_in controls ≡ controls_in c
  pub limit : controls.limit ≡ c.options.maxcontroliter
  pub timing : controls.timing ≡ timing_of c.options.controlmode
  pub keeps : AreControls (size_of (layout_of c.elements)) at clock controls
