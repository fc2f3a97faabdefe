use Rattle.std.proofs.Common.{◌≡◌, length}
use Rattle.dss_values.specs.Matrices.{first_of, mirrored, row_by_row}
use Rattle.dss_values.proofs.matrices.symmetric_cells.Given as goal

abbrev pub invariant-loop-row : goal.invariant-loop-row
invariant-loop-row l = l.cells.items ≡ row_by_row (λ i. first_of (mirrored l.rows i) (length l.rows)) l.row
