use Rattle.std.proofs.Common.{◌≡◌, ◌<◌, All, unsigned_abs}
use Rattle.fd_shape.specs.Column.{column_from, column_of}
use Rattle.fd_shape.specs.Left.{IsPlain, records_left}
use Rattle.fd_shape.proofs.Columns.{after}
use Rattle.fd_shape.proofs.column.read_column.Given as goal

abbrev pub invariant-loop-number : goal.invariant-loop-number
invariant-loop-number l = IsPlain l.reader
    × (column_of l.fn.bytes ≡ after l.values.items (column_from l.number (records_left l.reader)))
    × All (λ n. unsigned_abs n < 1_000_000_000_000_000_000) l.values.items
