use Rattle.std.proofs.Common.{◌≡◌, ℕ, ◌<◌, false}
use Rattle.fd_rowcert.specs.Rechecks.{is_narrow}
use Rattle.fd_rowcert.proofs.ranges.first_narrow.Given as goal

abbrev pub invariant-loop-unknown : goal.invariant-loop-unknown
invariant-loop-unknown l = (k : ℕ) → k < l.unknown → is_narrow l.bounds l.radius k ≡ false
