use Rattle.std.proofs.Common.{◌≡◌, take}
use Rattle.fd_bounds.specs.fd_derived.Sums.{capped}
use Rattle.fd_rowcert.specs.Entries.{size_in}
use Rattle.fd_rowcert.proofs.entries.size_of.Given as goal

abbrev pub invariant-loop-cell : goal.invariant-loop-cell
invariant-loop-cell l = l.size ≡ capped (size_in (take l.cell-index l.cells))
