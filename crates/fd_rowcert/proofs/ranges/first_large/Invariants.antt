use Rattle.std.proofs.Common.{◌≡◌, ℕ, ◌<◌, false}
use Rattle.fd_rowcert.specs.Rechecks.{is_large_at}
use Rattle.fd_rowcert.proofs.ranges.first_large.Given as goal

abbrev pub invariant-loop-row : goal.invariant-loop-row
invariant-loop-row l = (k : ℕ) → k < l.row → is_large_at l.claim k ≡ false
