use Rattle.std.proofs.Common.{◌≡◌, ℕ, ◌<◌, false}
use Rattle.fd_rowcert.specs.Rechecks.{is_far_at}
use Rattle.fd_rowcert.proofs.ranges.first_far.Given as goal

abbrev pub invariant-loop-place : goal.invariant-loop-place
invariant-loop-place l = (k : ℕ) → k < l.place → is_far_at l.centre l.radius k ≡ false
