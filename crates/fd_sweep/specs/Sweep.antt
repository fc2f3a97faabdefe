-- Kersting's ladder sweep of a radial circuit.
use Rattle.std.specs.Prelude.{◌≡◌, ℕ, ◌*◌, Option, Some, None, Result, Ok, Err}
use Rattle.fd_network.specs.fd_exact.Answers as answers
use Rattle.fd_network.specs.dss_circuit.Circuit.{CircuitView}
use Rattle.fd_network.specs.fd_devices.declared.settings.Positions.{Positions}
use Rattle.fd_network.specs.fd_pattern.Views.{NetworkView}
use Rattle.fd_network.specs.Built.{BuiltView}
use Rattle.fd_ladder.specs.declared.fault.LadderFault.{LadderFault}
use Rattle.fd_ladder.specs.declared.fault.LadderFault.TheVariants.{NotRadial}
use Rattle.fd_ladder.specs.Radial.{fault_of, first_offending}
use Rattle.fd_series.specs.fd_rungs.declared.swept.Swept.{Swept}
use Rattle.fd_series.specs.fd_rungs.Sweeps.{sweeps_of}
use Rattle.fd_sweep.specs.Ladders.{ladder_of}

-- how the sweeps of a circuit end at these positions, with the part loads of its network: at most 10 x MaxIterations
abbrev pub sweep_of : CircuitView → Positions → NetworkView → ℕ → Swept
sweep_of c at v max_iterations = sweeps_of (ladder_of c at) v.stamp.loads v.nodes v.size (10 * max_iterations)

-- of a circuit that isn't radial, the first element that offends
abbrev pub swept_unless : Option ℕ → Swept → Result Swept LadderFault
swept_unless None swept = Ok swept
swept_unless (Some number) swept = Err (NotRadial number)

abbrev pub sweep_result : CircuitView → Positions → NetworkView → ℕ → Result Swept LadderFault
sweep_result c at v max_iterations = swept_unless (first_offending c.elements) (sweep_of c at v max_iterations)

-- an answer is what is said; want of memory alone is free
abbrev pub Answers : Result Swept LadderFault → Result Swept LadderFault → Type 0
Answers = answers.Gives fault_of (λ swept. swept)

-- the network stands at these positions
pub record StandsAt (v : BuiltView) (at : Positions) : Type 0 where
  pub taps : v.settings.taps ≡ at.taps
  pub closed : v.settings.closed ≡ at.closed
