use Rattle.std.proofs.Common.{◌≡◌, ℕ, ◌<◌, false, length}
use Rattle.fd_substitution.specs.fd_derived.Rows.{number_at}
use Rattle.fd_bounds.specs.Passes.{heights, is_high}
use Rattle.fd_bounds.proofs.heights.heights_over.Given as goal

abbrev pub invariant-loop-row : goal.invariant-loop-row
invariant-loop-row l = record {
  long : length l.heights.items ≡ l.row;
  each : (k : ℕ) → number_at l.heights.items k ≡ heights l.equations l.rows (number_at l.bounds) l.row k;
  low : (k : ℕ) → k < l.row → is_high l.equations l.rows (number_at l.bounds) k ≡ false;
}
