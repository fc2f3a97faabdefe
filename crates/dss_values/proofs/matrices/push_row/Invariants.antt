use Rattle.std.proofs.Common.{◌≡◌, ◌++◌}
use Rattle.dss_values.specs.Matrices.{first_of, mirrored}
use Rattle.dss_values.proofs.matrices.push_row.Given as goal

abbrev pub invariant-loop-column : goal.invariant-loop-column
invariant-loop-column l = l.cells.items ≡ l.initial.cells.items ++ first_of (mirrored l.rows l.row) l.column
