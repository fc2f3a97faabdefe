use Rattle.std.proofs.Common.{◌≡◌, ℕ, ◌<◌, ◌≤◌, ◌-ℤ◌}
use Rattle.fd_inject.specs.fd_equations.fd_exact.States.{part}
use Rattle.fd_search.proofs.updates.take_back.Given as goal

abbrev pub invariant-loop-k : goal.invariant-loop-k
invariant-loop-k l = record {
  done : (i : ℕ) → i < l.k → part l.x i ≡ (part l.initial.x i -ℤ part l.update i);
  left : (i : ℕ) → l.k ≤ i → part l.x i ≡ part l.initial.x i;
}
