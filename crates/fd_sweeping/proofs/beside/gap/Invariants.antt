use Rattle.std.proofs.Common.{◌≡◌}
use Rattle.fd_solving.specs.fd_exact.Greatest.{greatest}
use Rattle.fd_sweeping.specs.Beside.{apart_at}
use Rattle.fd_sweeping.proofs.beside.gap.Given as goal

abbrev pub invariant-loop-place : goal.invariant-loop-place
invariant-loop-place l = l.greatest ≡ greatest (λ k. apart_at l.x l.centre k) l.place
