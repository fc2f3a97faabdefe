-- What the rounds of a settle keep of the machine, and when a claim is sound there.
use Rattle.std.specs.Prelude.{◌≡◌, List, length, All, None}
use Rattle.fd_sample.specs.dss_circuit.Circuit.{CircuitView}
use Rattle.fd_sample.specs.dss_circuit.InRange.{AllInRange, IsWithinLimits}
use Rattle.fd_sample.specs.dss_circuit.WellFormed.{IsEntry}
use Rattle.fd_sample.specs.dss_ready.Ready.{HasPassed}
use Rattle.fd_sample.specs.fd_elements.declared.powers.LoadPower.{LoadPower}
use Rattle.fd_sample.specs.fd_devices.Building.{IsModest}
use Rattle.fd_cert.specs.fd_enclosure.Sound.{Claim, IsSound}
use Rattle.fd_sample.specs.fd_queue.Controls.{Positions}
use Rattle.fd_sample.specs.fd_queue.Machine.{Machine}
use Rattle.fd_sample.specs.fd_queue.MachineLaws.{KeepsQueue}
use Rattle.fd_settle.specs.Plant.{blame_at, network_at, plant_of, setup_of}
use Rattle.fd_settle.specs.Rounds.{after_round}
use Rattle.fd_settle.specs.Start.{ArePositions, IsSoundAt}

-- a machine of a circuit: positions as many as its elements have, with taps in their range, and a queue of its controls
pub record IsMachineOf (c : CircuitView) (powers : List LoadPower) (m : Machine) : Type 0 where
  pub positions : ArePositions c powers m.at
  pub queue : KeepsQueue (length (setup_of c).controls) m

-- a round leaves one, whatever was claimed
abbrev pub KeptLaw : Type 0
KeptLaw =
    (c : CircuitView) (powers : List LoadPower) (m : Machine) (y : Claim) → HasPassed c → AllInRange c.elements
    → All IsEntry c.elements → IsMachineOf c powers m → IsMachineOf c powers (after_round (plant_of c powers) m y)

-- what is sound on the network of a circuit's definition is sound of the circuit, wherever nothing is out of range
abbrev pub SoundAtLaw : Type 0
SoundAtLaw =
    (c : CircuitView) (powers : List LoadPower) (at : Positions) (m : Claim) → HasPassed c
    → IsWithinLimits c.elements c.options → ArePositions c powers at → All IsModest powers → blame_at c powers at ≡ None
    → IsSound (network_at c powers at) m → IsSoundAt c powers at m
