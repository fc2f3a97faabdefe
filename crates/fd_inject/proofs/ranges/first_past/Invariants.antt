use Rattle.std.proofs.Common.{ℕ, ◌<◌, ◌≤◌, nat_abs}
use Rattle.fd_equations.specs.fd_exact.States.{part}
use Rattle.fd_inject.proofs.ranges.first_past.Given as goal

abbrev pub invariant-loop-place : goal.invariant-loop-place
invariant-loop-place l = (k : ℕ) → k < l.place → nat_abs (part l.xs k) ≤ l.fn.limit
