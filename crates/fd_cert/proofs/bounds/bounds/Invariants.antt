use Rattle.std.proofs.Common.{◌≡◌, ℕ, ℤ, length}
use Rattle.fd_enclosure.specs.fd_exact.States.{entry}
use Rattle.fd_enclosure.specs.fd_equations.Rounded.{list_of}
use Rattle.fd_enclosure.specs.Bounds.{bound_at}
use Rattle.fd_cert.specs.Slopes.{HasSlopes}
use Rattle.fd_cert.proofs.bounds.bounds.Given as goal

abbrev pub invariant-loop-row : goal.invariant-loop-row
invariant-loop-row l = record {
  sums : length l.sums.items ≡ l.slopes.jacobian.matrix.now.size;
  made : (J : ℕ → ℕ → ℤ) (R : ℕ → ℕ → ℕ) (w : ℕ → ℕ)
      → HasSlopes l.slopes.jacobian.matrix.now l.slopes.radii.items l.slopes.weights.now J R w
      → l.bounds.items ≡ list_of l.row (bound_at l.slopes.jacobian.matrix.now.size (entry l.inverse) J R w);
}
