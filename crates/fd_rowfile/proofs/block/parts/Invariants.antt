use Rattle.std.specs.Prelude.{map}
use Rattle.fd_lines.specs.WordLines.{lines_of}
use Rattle.fd_rowfile.specs.Blocks.{part_at}
use Rattle.fd_rowfile.specs.Views.{part}
use Rattle.fd_rowfile.proofs.ReadTo.{IsReadTo}
use Rattle.fd_rowfile.proofs.block.parts.Given as goal

abbrev pub invariant-loop-place : goal.invariant-loop-place
invariant-loop-place l = IsReadTo part_at l.count (lines_of l.bytes) l.place (map part l.found.items) (lines_of l.rest)
