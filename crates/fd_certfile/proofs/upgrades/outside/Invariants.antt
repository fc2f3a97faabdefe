use Rattle.std.proofs.Common.{length}
use Rattle.fd_certfile.specs.Lines.{lines_of}
use Rattle.fd_certfile.proofs.Outside.{IsOn}
use Rattle.fd_certfile.proofs.upgrades.outside.Given as goal

abbrev pub invariant-loop-alloc : goal.invariant-loop-alloc
invariant-loop-alloc l = IsOn l.version (lines_of l.bytes) (lines_of l.rest) l.line

abbrev pub decreases-loop-alloc : goal.decreases-loop-alloc
decreases-loop-alloc l = length (lines_of l.rest)
