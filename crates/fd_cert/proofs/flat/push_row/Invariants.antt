use Rattle.std.proofs.Common.{◌≡◌, ◌++◌, map, take}
use Rattle.std.specs.List.{filter}
use Rattle.fd_cert.specs.Entries.{HasSmallUnits, entry_of, has_units}
use Rattle.fd_cert.proofs.flat.push_row.Given as goal

abbrev pub invariant-loop-cell : goal.invariant-loop-cell
invariant-loop-cell l = record {
  made : l.entries.items ≡ l.initial.entries.items ++ map (entry_of l.fn.row) (filter has_units (take l.cell-index l.cells));
  small : HasSmallUnits l.cells l.cell-index;
}
