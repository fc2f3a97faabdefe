-- What the rounds of a settle keep where its states are computed.
use Rattle.std.specs.Prelude.{◌≡◌, ◌<◌, ◌^◌, List, length, map, All}
use Rattle.std.specs.List.{AllByRecursion}
use Rattle.fd_inject.specs.fd_exact.Sums.{list_n}
use Rattle.fd_sample.specs.dss_circuit.Circuit.{CircuitView}
use Rattle.fd_sample.specs.dss_circuit.InRange.{IsWithinLimits}
use Rattle.fd_sample.specs.dss_ready.Ready.{HasPassed}
use Rattle.fd_sample.specs.fd_capctl.CapState.{IsEarly}
use Rattle.fd_sample.specs.fd_devices.Settings.{bank_count}
use Rattle.fd_sample.specs.fd_elements.declared.powers.LoadPower.{LoadPower}
use Rattle.fd_cert.specs.fd_enclosure.Sound.{Claim}
use Rattle.fd_sample.specs.fd_queue.Machine.{Act, Machine}
use Rattle.fd_sample.specs.fd_queue.MachineLaws.{KeepsQueue}
use Rattle.fd_sample.specs.fd_queue.declared.entry.Entry.{Entry}
use Rattle.fd_settle.specs.Controls.{OpensEarly}
use Rattle.fd_settle.specs.Computed.{Answering, Ending, IsComputedFrom}
use Rattle.fd_settle.specs.Numbers.{AreActNumbers}
use Rattle.fd_settle.specs.Plant.{plant_of, setup_of}
use Rattle.fd_settle.specs.Rounds.{AtEach}
use Rattle.fd_settle.specs.Start.{ArePositions}

-- an entry's time has 63 bits, and one that opens a bank is early
abbrev pub IsTimely : Entry → Type 0
IsTimely e = (e.time < 2 ^ 63) × OpensEarly e

-- with what a settle of a circuit may start: positions of the circuit, a time below 2^60 milliseconds, an opening time
-- for each bank, or none, and a queue of its controls
pub record CanStart (c : CircuitView) (powers : List LoadPower) (m : Machine) : Type 0 where
  pub positions : ArePositions c powers m.at
  pub now : m.now < 2 ^ 60
  pub each : length m.opened ≡ list_n (λ e. bank_count e.1) c.elements
  pub early : All IsEarly m.opened
  pub queue : KeepsQueue (length (setup_of c).controls) m
  pub timely : AllByRecursion IsTimely m.queue

-- each round is made at positions of the circuit, its acts have modest numbers, and what is left can start another
-- settle
pub record AreKept (c : CircuitView) (powers : List LoadPower) (m : Machine) (rounds : List (Claim × List Act))
    (n : Machine) : Type 0 where
  pub positions : AtEach (λ at y. ArePositions c powers at) (plant_of c powers) m (map (λ r. r.0) rounds)
  pub acts : AllByRecursion (λ r. AllByRecursion (λ (a : Act). AreActNumbers a.time a.control a.steps) r.1) rounds
  pub left : CanStart c powers n

abbrev pub KeptRoundsLaw : Type 0
KeptRoundsLaw =
    (c : CircuitView) (powers : List LoadPower) (m : Machine) (answer : Answering)
    (rounds : List (Claim × List Act)) (ending : Ending) (n : Machine) → HasPassed c → IsWithinLimits c.elements c.options
    → CanStart c powers m
    → IsComputedFrom answer (plant_of c powers) m rounds ending n
    → AreKept c powers m rounds n
