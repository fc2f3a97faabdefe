use Rattle.std.proofs.Common.{◌≡◌, ℕ, length}
use Rattle.fd_triangles.specs.Columns.{Holds}
use Rattle.fd_triangles.proofs.loading.no_columns.Given as goal

abbrev pub invariant-loop-place : goal.invariant-loop-place
invariant-loop-place l = record {
  long : length l.columns.items ≡ l.place;
  none : (c i : ℕ) → Holds l.columns.items c i → ⊥;
}
