use Rattle.std.proofs.Common.{◌≡◌, ℕ, ◌+◌, ◌≤◌, ◌^◌, Some, length}
use Rattle.fd_substitution.specs.fd_derived.Rows.{number_at}
use Rattle.fd_bounds.specs.Passes.{bounds_after, risen}
use Rattle.fd_bounds.specs.Results.{GoesOn}
use Rattle.fd_bounds.proofs.passes.first_pass.Given as goal

abbrev pub invariant-loop-turn : goal.invariant-loop-turn
invariant-loop-turn l = record {
  long : length l.bounds.items ≡ length l.equations;
  each : (j : ℕ) → number_at l.bounds.items j ≡ bounds_after l.equations l.rows l.turn j;
  low : (j : ℕ) → number_at l.bounds.items j ≤ 2 ^ 60;
  goes : GoesOn l.equations l.rows l.turn;
  rose : (k : ℕ) → k + 1 ≡ l.turn → risen l.equations l.rows k ≡ Some l.unknown;
}
