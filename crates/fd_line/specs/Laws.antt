-- What is true of a line's stated contributions.
use Rattle.std.specs.Prelude.{◌*◌, ◌≤◌, length, All}
use Rattle.fd_system.specs.fd_arith.declared.terms.Ends.{Ends}
use Rattle.fd_system.specs.Contributions.{IsDivided}
use Rattle.fd_system.specs.Equations.{AddsUp}
use Rattle.fd_line.specs.declared.data.LineData.{LineData}
use Rattle.fd_line.specs.Line.{line_list, line_parts}

-- they add up to the equations, have denominators in range and are at most 32 a phase
pub record AreLineTerms (l : LineData) (at : Ends) : Type 0 where
  pub adds_up : AddsUp (line_list l at) (line_parts l at)
  pub divided : All IsDivided (line_list l at)
  pub few : l.phases ≤ 3 → length (line_list l at) ≤ 32 * l.phases

abbrev pub LineLaw : Type 0
LineLaw = (l : LineData) (at : Ends) → AreLineTerms l at
