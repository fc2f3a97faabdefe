use Rattle.std.proofs.Common.{◌≡◌, ℕ, ◌<◌, false}
use Rattle.fd_rowcert.specs.Rechecks.{is_high_at}
use Rattle.fd_rowcert.proofs.ranges.first_high.Given as goal

abbrev pub invariant-loop-unknown : goal.invariant-loop-unknown
invariant-loop-unknown l = (k : ℕ) → k < l.unknown → is_high_at l.bounds k ≡ false
