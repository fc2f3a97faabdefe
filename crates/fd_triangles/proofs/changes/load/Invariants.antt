use Rattle.std.proofs.Common.{◌≡◌, ℕ, [], length, take}
use Rattle.fd_triangles.specs.Columns.{HasNoted}
use Rattle.fd_triangles.specs.Rows.{IsRow, number}
use Rattle.fd_triangles.proofs.changes.load.Given as goal

abbrev pub invariant-loop-entry : goal.invariant-loop-entry
invariant-loop-entry l = record {
  row : IsRow (length l.fn.columns) l.row.items;
  numbers : (c : ℕ) → number l.row.items c ≡ number (take l.entry-index l.coefficients) c;
  noted : HasNoted l.fn.columns l.columns [] l.row.items l.index;
}
