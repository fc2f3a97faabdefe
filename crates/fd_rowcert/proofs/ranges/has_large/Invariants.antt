use Rattle.std.proofs.Common.{◌≡◌, ℕ, ◌<◌, ◌^◌, nat_abs, nat_lt, false}
use Rattle.fd_bounds.specs.fd_triangles.Rows.{entry_at}
use Rattle.fd_rowcert.proofs.ranges.has_large.Given as goal

abbrev pub invariant-loop-entry : goal.invariant-loop-entry
invariant-loop-entry l = (k : ℕ) → k < l.entry-index → nat_lt (2 ^ 62) (nat_abs (entry_at l.entries k).units) ≡ false
