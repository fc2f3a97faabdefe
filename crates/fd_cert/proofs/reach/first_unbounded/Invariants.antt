use Rattle.std.proofs.Common.{ℕ, ◌<◌, ◌≡◌, false}
use Rattle.fd_cert.specs.Reaches.{is_unbounded}
use Rattle.fd_cert.proofs.reach.first_unbounded.Given as goal

abbrev pub invariant-loop-place : goal.invariant-loop-place
invariant-loop-place l = (k : ℕ) → k < l.place → is_unbounded l.weights l.fn.reach l.bounds k ≡ false
