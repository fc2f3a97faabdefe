use Rattle.std.proofs.Common.{◌≡◌, ◌*◌, ◌≤◌, ◌^◌, ◌*ℤ◌, nat_abs}
use Rattle.fd_equations.specs.fd_exact.States.{part}
use Rattle.fd_equations.specs.fd_exact.Sums.{sum_z}
use Rattle.fd_inject.proofs.updates.dot.Given as goal

abbrev pub invariant-loop-k : goal.invariant-loop-k
invariant-loop-k l = record {
  sum : l.sum ≡ sum_z (λ k. part l.row k *ℤ part l.residual k) l.k;
  small : nat_abs l.sum ≤ l.k * 2 ^ 114;
}
