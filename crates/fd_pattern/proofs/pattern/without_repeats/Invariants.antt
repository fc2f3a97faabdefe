use Rattle.fd_pattern.proofs.Order.{IsSoFar}
use Rattle.fd_pattern.proofs.pattern.without_repeats.Given as goal

abbrev pub invariant-loop-place : goal.invariant-loop-place
invariant-loop-place l = IsSoFar l.places l.kept.items l.place-index
