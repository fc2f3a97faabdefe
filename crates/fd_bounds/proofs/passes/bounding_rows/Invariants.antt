use Rattle.std.proofs.Common.{◌≡◌, ℕ, ◌<◌, length}
use Rattle.fd_substitution.specs.fd_derived.Rows.{number_at}
use Rattle.fd_bounds.specs.Rows.{unknown_at}
use Rattle.fd_bounds.proofs.passes.bounding_rows.Given as goal

abbrev pub invariant-loop-row : goal.invariant-loop-row
invariant-loop-row l = record {
  long : length l.list.items ≡ length l.equations;
  each : (t : ℕ) → t < l.row → number_at l.list.items (unknown_at l.rows t) ≡ t;
}
