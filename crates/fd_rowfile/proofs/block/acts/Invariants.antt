use Rattle.std.proofs.Common.{length}
use Rattle.std.specs.Prelude.{map}
use Rattle.fd_lines.specs.WordLines.{lines_of}
use Rattle.fd_rowfile.specs.Views.{act}
use Rattle.fd_rowfile.proofs.ReadTo.{AreActsTo}
use Rattle.fd_rowfile.proofs.block.acts.Given as goal

abbrev pub invariant-loop-act : goal.invariant-loop-act
invariant-loop-act l = AreActsTo (lines_of l.bytes) (map act l.found.items) (lines_of l.rest)

abbrev pub decreases-loop-act : goal.decreases-loop-act
decreases-loop-act l = length (lines_of l.rest)
