use Rattle.std.specs.Prelude.{map}
use Rattle.fd_certfile.specs.Blocks.{part_at}
use Rattle.fd_certfile.specs.Lines.{lines_of}
use Rattle.fd_certfile.specs.Readings.{IsKeptSoFar, as_they_are}
use Rattle.fd_certfile.specs.Views.{part}
use Rattle.fd_certfile.proofs.block.parts.Given as goal

abbrev pub invariant-loop-place : goal.invariant-loop-place
invariant-loop-place l = IsKeptSoFar part_at as_they_are l.keep l.count (lines_of l.bytes) l.place (map part l.found.items) (lines_of l.rest)
