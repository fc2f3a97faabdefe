use Rattle.std.proofs.Common.{◌≡◌, take}
use Rattle.fd_derived.specs.Rows.{entries_of}
use Rattle.fd_derived.specs.Sums.{capped, size_of}
use Rattle.fd_derived.proofs.totals.size_of.Given as goal

abbrev pub invariant-loop-entry : goal.invariant-loop-entry
invariant-loop-entry l = l.size ≡ capped (size_of (entries_of (take l.entry-index l.row)))
