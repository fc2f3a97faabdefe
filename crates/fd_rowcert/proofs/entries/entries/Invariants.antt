use Rattle.std.proofs.Common.{◌≡◌, map, take}
use Rattle.std.specs.List.{filter}
use Rattle.fd_rowcert.specs.Entries.{entry_in, has_units}
use Rattle.fd_rowcert.proofs.entries.entries.Given as goal

abbrev pub invariant-loop-cell : goal.invariant-loop-cell
invariant-loop-cell l = l.row.items ≡ map entry_in (filter has_units (take l.cell-index l.cells))
