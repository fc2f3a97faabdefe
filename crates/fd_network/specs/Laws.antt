-- What the definition of a circuit's network is, where no element is to blame for being out of range.
use Rattle.std.specs.Prelude.{◌≡◌, All, None}
use Rattle.dss_ready.specs.dss_circuit.Circuit.{CircuitView}
use Rattle.dss_ready.specs.dss_circuit.InRange.{IsWithinLimits}
use Rattle.dss_ready.specs.Ready.{HasPassed}
use Rattle.fd_devices.specs.fd_xfmr.Leakage.{AreTaps}
use Rattle.fd_equations.specs.fd_pattern.Conditions.{IsNetwork}
use Rattle.fd_devices.specs.Building.{IsModest}
use Rattle.fd_devices.specs.Devices.{AgreesWith}
use Rattle.fd_devices.specs.Scripted.{circuit_network, circuit_parts, devices_of}
use Rattle.fd_devices.specs.Settings.{AreSettings, Settings}
use Rattle.fd_network.specs.Faults.{range_blame}

-- the rows of a circuit at these settings are those of a network, and of the circuit's complex equations
pub record IsOfCircuit (c : CircuitView) (s : Settings) : Type 0 where
  pub network : IsNetwork (circuit_network c s)
  pub agrees : AgreesWith (circuit_network c s).stamp (circuit_parts c s)

-- so they are of a circuit that passed the tests of Solve, wherever nothing is out of range
abbrev pub NetworkLaw : Type 0
NetworkLaw = (c : CircuitView) (s : Settings) → HasPassed c → IsWithinLimits c.elements c.options → AreSettings c.elements s
    → All AreTaps s.taps → All IsModest s.powers → range_blame c.elements (devices_of c s) ≡ None → IsOfCircuit c s
