use Rattle.std.specs.Prelude.{map}
use Rattle.fd_lines.specs.WordLines.{lines_of}
use Rattle.fd_rowfile.specs.Blocks.{bound_at}
use Rattle.fd_rowfile.specs.Views.{bound}
use Rattle.fd_rowfile.proofs.ReadTo.{IsReadTo}
use Rattle.fd_rowfile.proofs.block.bounds.Given as goal

abbrev pub invariant-loop-place : goal.invariant-loop-place
invariant-loop-place l = IsReadTo bound_at l.count (lines_of l.bytes) l.place (map bound l.found.items) (lines_of l.rest)
