use Rattle.std.proofs.Common.{◌≡◌}
use Rattle.fd_enclosure.specs.fd_exact.Greatest.{greatest}
use Rattle.fd_enclosure.specs.Bounds.{bound_size}
use Rattle.fd_cert.specs.Reaches.{bound_in}
use Rattle.fd_cert.proofs.reach.greatest_bound.Given as goal

abbrev pub invariant-loop-place : goal.invariant-loop-place
invariant-loop-place l = l.greatest ≡ greatest (λ i. bound_size (bound_in l.bounds i)) l.place
