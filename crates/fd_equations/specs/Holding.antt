-- What rows by non-zeros keep, and what they can hold.
use Rattle.std.specs.Prelude.{◌<◌, ◌≤◌, ◌^◌, List, length, All}
use Rattle.std.specs.List.{Contains}
use Rattle.fd_pattern.specs.fd_arith.declared.terms.Term.{Term}
use Rattle.fd_pattern.specs.fd_system.declared.loads.LoadAt.{LoadAt}
use Rattle.fd_equations.specs.declared.cells.Cell.{Cell}
use Rattle.fd_equations.specs.Amounts.{AreCells, IsNothingElsewhere, RowsView, of_rows}
use Rattle.fd_pattern.specs.Conditions.{AreLinear}
use Rattle.fd_pattern.specs.PatternPlaces.{places_of}
use Rattle.fd_pattern.specs.Patterns.{PatternView}
use Rattle.fd_pattern.specs.Terminals.{IsConnected}

-- the cells have the sums of these contributions and the numbers of slopes of these part loads, and nothing stands elsewhere
pub record AreRows (p : PatternView) (ts : List Term) (us : List LoadAt) (cells : List Cell) : Type 0 where
  pub small : p.size ≤ 2 ^ 11
  pub linear : AreLinear p.size ts
  pub loads : All (IsConnected p.size) us
  pub few : length us < 2 ^ 21
  pub sums : AreCells p.places cells (of_rows ts us)
  -- their places are among those that are kept
  pub reached : All (Contains p.places) (places_of ts us)
  pub nothing : IsNothingElsewhere p.places (of_rows ts us)

-- contributions and part loads that rows can hold: these are of their size, and their places are among those that are kept
pub record CanHold (v : RowsView) (ts : List Term) (us : List LoadAt) : Type 0 where
  pub linear : AreLinear v.size ts
  pub loads : All (IsConnected v.size) us
  pub few : length us < 2 ^ 21
  pub reached : All (Contains v.places) (places_of ts us)
