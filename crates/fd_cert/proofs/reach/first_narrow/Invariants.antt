use Rattle.std.proofs.Common.{ℕ, ◌<◌, ◌≤◌}
use Rattle.fd_enclosure.specs.Sound.{number_at}
use Rattle.fd_cert.proofs.reach.first_narrow.Given as goal

abbrev pub invariant-loop-place : goal.invariant-loop-place
invariant-loop-place l = (k : ℕ) → k < l.place → number_at l.least k ≤ number_at l.claimed k
