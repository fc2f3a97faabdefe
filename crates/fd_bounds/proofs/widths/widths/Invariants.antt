use Rattle.std.proofs.Common.{◌≡◌, ℕ, ◌<◌, false, length}
use Rattle.fd_substitution.specs.fd_derived.Rows.{number_at}
use Rattle.fd_bounds.specs.Passes.{bounds, is_wide}
use Rattle.fd_bounds.proofs.widths.widths.Given as goal

abbrev pub invariant-loop-behind : goal.invariant-loop-behind
invariant-loop-behind l = record {
  long : length l.bounds.items ≡ length l.equations;
  each : (j : ℕ) → number_at l.bounds.items j ≡ bounds l.rows (number_at l.heights) l.behind j;
  narrow : (d : ℕ) → d < l.behind → is_wide l.rows (number_at l.heights) d ≡ false;
}
