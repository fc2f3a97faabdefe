use Rattle.std.proofs.Common.{◌≡◌, ℕ, ◌<◌, pos}
use Rattle.fd_enclosure.specs.fd_exact.States.{part}
use Rattle.fd_cert.proofs.sums.clear.Given as goal

abbrev pub invariant-loop-sum : goal.invariant-loop-sum
invariant-loop-sum l = (k : ℕ) → k < l.sum-index → part l.sum-items k ≡ pos 0
