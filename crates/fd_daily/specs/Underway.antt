-- The hours of a Solve under way.
use Rattle.std.specs.Prelude.{◌≡◌, ℕ, All, IfSome, IsSome, List, [], ◌∷◌, Option, None, Result}
use Rattle.fd_settings.specs.dss_model.declared.command.Blame.{Blame}
use Rattle.fd_settings.specs.dss_circuit.Circuit.{CircuitView}
use Rattle.fd_settings.specs.fd_devices.Building.{IsModest}
use Rattle.fd_settings.specs.Daily.{AreDaily}
use Rattle.fd_settings.specs.Hours.{hour_powers}
use Rattle.fd_settings.specs.Positions.{next_closed, next_taps}
use Rattle.fd_settings.specs.fd_devices.declared.fault.BuildFault.{BuildFault}
use Rattle.fd_settings.specs.fd_devices.declared.settings.Positions.{Positions as CodePositions}
use Rattle.fd_settings.specs.fd_pattern.Views.{NetworkView}
use Rattle.fd_settle.specs.fd_network.Built.{IsBuiltOf}
use Rattle.fd_settle.specs.fd_network.Faults.{IsFaultOf}
use Rattle.fd_settle.specs.fd_queue.Controls.{Positions}
use Rattle.fd_settle.specs.fd_queue.Machine.{Machine}
use Rattle.fd_settle.specs.fd_sample.Circuits.{probes_of}
use Rattle.fd_settle.specs.fd_sample.Probes.{positions_in}
use Rattle.fd_settle.specs.fd_enclosure.Sound.{Claim}
use Rattle.fd_settle.specs.Contract.{IsSettled}
use Rattle.fd_settle.specs.Controls.{AreAtWork, machine_of}
use Rattle.fd_settle.specs.Plant.{Plant, plant_of}
use Rattle.fd_settle.specs.Start.{ArePositions, IsNetworkAt}
use Rattle.fd_settle.specs.declared.fault.SettleFault.{SettleFault}
use Rattle.fd_settle.specs.declared.round.Round.{Round}
use Rattle.fd_daily.specs.Day.{DayView, IsDay, MayBegin, begun_hour, hour_in, hours_left}
use Rattle.fd_daily.specs.declared.underway.Underway.{Underway}

-- before the first Solve no device has a position
abbrev pub no_positions : Positions
no_positions = record { taps = []; closed = [] }

-- the positions with which a Solve starts, where the Solve before left these: those that the script set since then, and
-- else those that it left
abbrev pub start_from : CircuitView → Positions → Positions
start_from c at = record { taps = next_taps c.solves c.elements at.taps; closed = next_closed c.solves c.elements at.closed }

-- the circuit with the powers of an hour, as the queue machine sees it
abbrev pub plant_at : CircuitView → ℕ → Plant
plant_at c hour = plant_of c (hour_powers c.elements hour)

-- the machine that positions and controls show
abbrev pub machine_in : {K : Type 0} → CodePositions → Underway K → Machine
machine_in at u = machine_of at u.clock u.controls

-- These rounds are those of the settle of the next hour, where the hour before left machine m; it leaves machine n.
abbrev pub IsSettledHour : {V T F : Type 0} → (V → NetworkView → Result Claim F → V → Type 0) → CircuitView → DayView
    → V → V → Machine → Machine → Result T (SettleFault F) → List Round → Type 0
IsSettledHour gives c d v w m n result rounds =
    IsSettled gives c (hour_powers c.elements (hour_in d)) v w (begun_hour c d m) n result rounds

-- the same of the rounds that were made, which alone a journal now holds
pub record HasSettledHour {V T F K : Type 0} (gives : V → NetworkView → Result Claim F → V → Type 0)
    (holds : K → List Round → Type 0) (c : CircuitView) (d : DayView) (v w : V) (m n : Machine) (now : K)
    (result : Result T (SettleFault F)) : Type 0 where
  pub made : List Round
  pub held : holds now made
  pub settled : IsSettledHour gives c d v w m n result made

-- The network is the circuit's at these positions with the powers of the next hour; loads, probes and controls are its own.
pub record IsUnderway {K : Type 0} (c : CircuitView) (at : CodePositions) (u : Underway K) : Type 0 where
  pub positions : ArePositions c u.powers.loads (positions_in at)
  pub powers : u.powers.loads ≡ hour_powers c.elements (hour_in u.day)
  pub modest : All IsModest u.powers.loads
  pub loads : AreDaily c.elements u.loads.each.items
  pub probes : u.probes.items ≡ probes_of c.elements
  pub day : IsDay u.day
  pub hour : IsSome u.day.hour
  pub network : IsNetworkAt c u.powers.loads (positions_in at) u.net
  pub work : AreAtWork c at u.clock u.controls
  pub numbers : MayBegin (hour_in u.day) (machine_in at u).next

-- what an hour leaves, however it ended
pub record IsAfterHour {K : Type 0} (c : CircuitView) (at : CodePositions) (u : Underway K) : Type 0 where
  pub positions : ArePositions c u.powers.loads (positions_in at)
  pub loads : AreDaily c.elements u.loads.each.items
  pub probes : u.probes.items ≡ probes_of c.elements
  pub day : IsDay u.day
  pub built : IsBuiltOf u.net c
  pub work : AreAtWork c at u.clock u.controls

-- what is left of them behind an hour that ended well and left these positions
pub record IsLeftBehind {K : Type 0} (c : CircuitView) (at : CodePositions) (before after : Underway K) : Type 0 where
  pub after_hour : IsAfterHour c at after
  pub left : hours_left before.day ≡ hour_in before.day ∷ hours_left after.day
  pub numbers : IfSome after.day.hour (λ k. MayBegin k (machine_in at after).next)

-- what is to blame where the network of the first of these hours is out of range at these positions
abbrev pub blame_first : CircuitView → List ℕ → Positions → Option Blame
blame_first c [] at = None
blame_first c (hour ∷ hours) at = (plant_at c hour).blame at

-- the network of the first of these hours is refused so at these positions; want of memory is free
abbrev pub IsRefusedAt : CircuitView → List ℕ → Positions → BuildFault → Type 0
IsRefusedAt c hours at f = IsFaultOf (blame_first c hours at) f
