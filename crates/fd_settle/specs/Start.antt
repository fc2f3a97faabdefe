-- With what a settle starts, and what holds at each of its rounds.
use Rattle.std.specs.Prelude.{◌≡◌, ◌<◌, ◌^◌, List, length, All, None}
use Rattle.fd_inject.specs.fd_exact.Sums.{list_n}
use Rattle.fd_sample.specs.dss_circuit.Circuit.{CircuitView}
use Rattle.fd_sample.specs.fd_xfmr.Leakage.{AreTaps}
use Rattle.fd_sample.specs.fd_elements.declared.powers.LoadPower.{LoadPower}
use Rattle.fd_sample.specs.fd_devices.Devices.{AgreesWith}
use Rattle.fd_sample.specs.fd_devices.Scripted.{circuit_parts}
use Rattle.fd_sample.specs.fd_devices.Settings.{AreSettings, bank_count}
use Rattle.fd_sample.specs.fd_network.Built.{BuiltView, IsBuiltOf}
use Rattle.fd_sample.specs.fd_capctl.CapState.{IsEarly}
use Rattle.fd_inject.specs.fd_pattern.Conditions.{IsNetwork}
use Rattle.fd_cert.specs.fd_enclosure.Sound.{Claim, IsSound}
use Rattle.fd_sample.specs.fd_queue.Controls.{Positions}
use Rattle.fd_settle.specs.declared.clock.Clock.{Clock}
use Rattle.fd_settle.specs.Plant.{blame_at, network_at, settings_at}

-- an opening time for each bank, or none; times below 2^60 milliseconds
pub record IsClock (c : CircuitView) (clock : Clock) : Type 0 where
  pub now : clock.now < 2 ^ 60
  pub each : length clock.opened.items ≡ list_n (λ e. bank_count e.1) c.elements
  pub early : All IsEarly clock.opened.items

-- positions of a circuit, as many as its elements have, with taps in their range
pub record ArePositions (c : CircuitView) (powers : List LoadPower) (at : Positions) : Type 0 where
  pub counts : AreSettings c.elements (settings_at powers at)
  pub taps : All AreTaps at.taps

-- the network of a circuit at these positions, in range, whose system has the circuit's equations
pub record IsNetworkAt (c : CircuitView) (powers : List LoadPower) (at : Positions) (net : BuiltView) : Type 0 where
  pub built : IsBuiltOf net c
  pub rows : net.rows ≡ network_at c powers at
  pub in_range : blame_at c powers at ≡ None
  pub agrees : AgreesWith (network_at c powers at).stamp (circuit_parts c (settings_at powers at))

-- what holds of a round: its positions are the circuit's, its rows are a network's and have the circuit's equations,
-- and its certified state is sound there
pub record IsSoundAt (c : CircuitView) (powers : List LoadPower) (at : Positions) (m : Claim) : Type 0 where
  pub positions : ArePositions c powers at
  pub agrees : AgreesWith (network_at c powers at).stamp (circuit_parts c (settings_at powers at))
  pub network : IsNetwork (network_at c powers at)
  pub sound : IsSound (network_at c powers at) m
