use Rattle.std.proofs.Common.{◌≡◌, ◌++◌, drop}
use Rattle.dss_values.specs.Matrices.{joined}
use Rattle.dss_values.proofs.matrices.joined_cells.Given as goal

abbrev pub invariant-loop-row : goal.invariant-loop-row
invariant-loop-row l = l.cells.items ++ joined (drop l.row-index l.rows) ≡ joined l.rows
