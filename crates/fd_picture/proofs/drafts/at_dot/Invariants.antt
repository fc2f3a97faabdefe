use Rattle.fd_picture.proofs.DotSteps.{NoDot}
use Rattle.fd_picture.proofs.drafts.at_dot.Given as goal

abbrev pub invariant-loop-i : goal.invariant-loop-i
invariant-loop-i l = NoDot l.name l.i
