use Rattle.fd_ladder.proofs.Noting.{AreNotedBelow}
use Rattle.fd_ladder.proofs.touching.touching_in.Given as goal

-- the sections so far are noted
abbrev pub invariant-loop-place : goal.invariant-loop-place
invariant-loop-place l = AreNotedBelow l.sections l.place l.touching.entries
