use Rattle.fd_certfile.specs.Blocks.{row_at}
use Rattle.fd_certfile.specs.Lines.{lines_of}
use Rattle.fd_certfile.specs.Readings.{IsKeptSoFar, cells_of}
use Rattle.fd_certfile.proofs.block.rows.Given as goal

abbrev pub invariant-loop-place : goal.invariant-loop-place
invariant-loop-place l = IsKeptSoFar (row_at l.version l.count) cells_of l.keep l.count (lines_of l.bytes) l.place l.cells (lines_of l.rest)
