use Rattle.std.proofs.Common.{◌≡◌}
use Rattle.fd_solving.specs.fd_exact.Greatest.{greatest}
use Rattle.fd_solving.specs.fd_enclosure.Sound.{number_at}
use Rattle.fd_sweeping.proofs.beside.greatest.Given as goal

abbrev pub invariant-loop-place : goal.invariant-loop-place
invariant-loop-place l = l.greatest ≡ greatest (λ k. number_at l.numbers k) l.place
