use Rattle.std.proofs.Common.{◌≡◌, ◌*◌, ℕ, ℤ, length}
use Rattle.fd_enclosure.specs.fd_exact.States.{entry}
use Rattle.fd_enclosure.specs.fd_equations.Rounded.{list_of}
use Rattle.fd_enclosure.specs.Bounds.{bound_at}
use Rattle.fd_cert.specs.Slopes.{HasSlopes}
use Rattle.fd_cert.proofs.bounds.push_by_twos.Given as goal

abbrev pub invariant-loop-pair : goal.invariant-loop-pair
invariant-loop-pair l = record {
  sums : length l.sums ≡ l.slopes.jacobian.matrix.now.size;
  others : length l.others.items ≡ l.slopes.jacobian.matrix.now.size;
  made : (J : ℕ → ℕ → ℤ) (R : ℕ → ℕ → ℕ) (w : ℕ → ℕ)
      → HasSlopes l.slopes.jacobian.matrix.now l.slopes.radii.items l.slopes.weights.now J R w
      → l.bounds.items ≡ list_of (2 * l.pair) (bound_at l.slopes.jacobian.matrix.now.size (entry l.inverse) J R w);
}
