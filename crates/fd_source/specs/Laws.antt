-- What is true of a source's stated constants and contributions, and of the impedances by its short-circuit powers.
use Rattle.std.specs.Prelude.{◌*◌, ◌≤◌, length, All}
use Rattle.fd_system.specs.fd_arith.declared.terms.Ends.{Ends}
use Rattle.fd_system.specs.Contributions.{IsDivided}
use Rattle.fd_system.specs.System.{Represents}
use Rattle.fd_source.specs.declared.data.SourceData.{SourceData}
use Rattle.fd_source.specs.declared.data.ShortCircuit.{ShortCircuit}
use Rattle.fd_source.specs.Powers.{IsGreatest, KeepsSize, one_phase_size, positive_reactance, positive_resistance, ratio_of, three_phase_size, zero_resistance}
use Rattle.fd_source.specs.Equations.{stamp_from, source_constants, source_list, source_parts}

-- they add up to the equations, have denominators in range and are at most 16 a phase
pub record AreSourceTerms (s : SourceData) (at : Ends) : Type 0 where
  pub represents : Represents (stamp_from at (source_constants s) (source_list s at)) (source_parts s at)
  pub divided : All IsDivided (source_list s at)
  pub few : s.phases ≤ 3 → length (source_list s at) ≤ 16 * s.phases

abbrev pub SourceLaw : Type 0
SourceLaw = (s : SourceData) (at : Ends) → AreSourceTerms s at

-- R1 is the greatest resistance that keeps the size of the three-phase power with its reactance, and R0 the greatest that keeps three
-- times that of the one-phase power with its reactance and 2 (R1 + j X1)
pub record AreGreatest (s : ShortCircuit) : Type 0 where
  pub r1 : IsGreatest (KeepsSize 0 0 (ratio_of s.x1r1) (three_phase_size s)) (positive_resistance s)
  pub r0 : IsGreatest (KeepsSize (2 * positive_resistance s) (2 * positive_reactance s) (ratio_of s.x0r0) (3 * one_phase_size s)) (zero_resistance s)

abbrev pub OhmsLaw : Type 0
OhmsLaw = (s : ShortCircuit) → AreGreatest s
