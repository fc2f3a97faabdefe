use Rattle.std.proofs.Common.{length, take}
use Rattle.fd_triangles.specs.Columns.{HasNoted}
use Rattle.fd_triangles.specs.Rows.{IsRow}
use Rattle.fd_triangles.specs.Steps.{HasLost}
use Rattle.fd_triangles.proofs.changes.subtract.Given as goal

abbrev pub invariant-loop-entry : goal.invariant-loop-entry
invariant-loop-entry l = record {
  row : IsRow (length l.fn.columns) l.row.items;
  numbers : HasLost l.fn.row.items l.row.items l.f (take l.entry-index l.others);
  noted : HasNoted l.fn.columns l.columns l.fn.row.items l.row.items l.index;
}
