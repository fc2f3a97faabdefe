use Rattle.std.proofs.Common.{length}
use Rattle.fd_certfile.specs.Lines.{lines_of}
use Rattle.fd_certfile.proofs.Acts.{IsCounted}
use Rattle.fd_certfile.proofs.block.acts.Given as goal

-- the acts so far and those of the rest are those of all
abbrev pub invariant-loop-text : goal.invariant-loop-text
invariant-loop-text l = IsCounted (lines_of l.bytes) l.count (lines_of l.rest)

abbrev pub decreases-loop-text : goal.decreases-loop-text
decreases-loop-text l = length l.rest
