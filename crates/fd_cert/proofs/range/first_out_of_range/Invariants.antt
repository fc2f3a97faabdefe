use Rattle.std.proofs.Common.{◌≡◌, ℕ, ◌<◌, false, length}
use Rattle.fd_cert.specs.Rechecks.{is_out_of_range}
use Rattle.fd_cert.proofs.range.first_out_of_range.Given as goal

abbrev pub invariant-loop-place : goal.invariant-loop-place
invariant-loop-place l = (k : ℕ) → k < l.place → is_out_of_range (length l.centre) l.centre l.radius l.inverse k ≡ false
