use Rattle.std.proofs.Common.{◌≡◌, drop}
use Rattle.dss_values.specs.Matrices.{is_triangle_from}
use Rattle.dss_values.proofs.matrices.has_rising_rows.Given as goal

abbrev pub invariant-loop-i : goal.invariant-loop-i
invariant-loop-i l = is_triangle_from l.i (drop l.i l.rows) ≡ is_triangle_from 0 l.rows
