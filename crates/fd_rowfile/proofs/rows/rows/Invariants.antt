use Rattle.std.proofs.Common.{length}
use Rattle.fd_lines.specs.WordLines.{lines_of}
use Rattle.fd_rowfile.proofs.ReadTo.{AreRowsTo}
use Rattle.fd_rowfile.proofs.rows.rows.Given as goal

abbrev pub invariant-loop-found : goal.invariant-loop-found
invariant-loop-found l = AreRowsTo l.below (lines_of l.bytes) (length l.found.items) l.found.items (lines_of l.rest)

abbrev pub decreases-loop-found : goal.decreases-loop-found
decreases-loop-found l = length (lines_of l.rest)
