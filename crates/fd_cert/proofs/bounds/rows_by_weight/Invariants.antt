use Rattle.std.proofs.Common.{◌≡◌, ℕ, ◌<◌, length}
use Rattle.fd_enclosure.specs.Sound.{number_at}
use Rattle.fd_cert.specs.Columns.{HasWeights}
use Rattle.fd_cert.specs.Slopes.{HasRadii}
use Rattle.fd_cert.specs.Totals.{IsUpTo, weighted_radius}
use Rattle.fd_cert.proofs.bounds.rows_by_weight.Given as goal

abbrev pub invariant-loop-row : goal.invariant-loop-row
invariant-loop-row l = record {
  long : length l.rows.items ≡ l.row;
  each : (R : ℕ → ℕ → ℕ) (w : ℕ → ℕ) → HasRadii l.radii R → HasWeights l.radii.size l.weights w → (k : ℕ) → k < l.row
      → IsUpTo (weighted_radius l.radii.size R w k) (number_at l.rows.items k);
}
