use Rattle.std.proofs.Common.{ℕ, ◌<◌, ◌≤◌}
use Rattle.fd_enclosure.specs.Sound.{greatest_mismatch, number_at}
use Rattle.fd_cert.proofs.mismatches.first_loose.Given as goal

abbrev pub invariant-loop-row : goal.invariant-loop-row
invariant-loop-row l = (k : ℕ) → k < l.row → number_at l.mismatch k ≤ greatest_mismatch
