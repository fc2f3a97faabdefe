use Rattle.std.proofs.Common.{◌≡◌, ℕ, ◌<◌, ◌≤◌, ◌^◌, neg_ℤ, nat_abs}
use Rattle.fd_inject.specs.fd_equations.fd_exact.States.{part}
use Rattle.fd_search.proofs.updates.turn.Given as goal

abbrev pub invariant-loop-k : goal.invariant-loop-k
invariant-loop-k l = record {
  turned : (i : ℕ) → i < l.k → part l.numbers i ≡ neg_ℤ (part l.moves i);
  small : (i : ℕ) → i < l.k → nat_abs (part l.numbers i) ≤ 2 ^ 86;
}
