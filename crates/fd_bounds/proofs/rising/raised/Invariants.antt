use Rattle.std.proofs.Common.{◌≡◌, ℕ, ◌+◌, ◌/◌, ◌^◌, ◌<◌, length}
use Rattle.fd_substitution.specs.fd_derived.Rows.{number_at}
use Rattle.fd_bounds.proofs.rising.raised.Given as goal

abbrev pub invariant-loop-place : goal.invariant-loop-place
invariant-loop-place l = record {
  long : length l.list.items ≡ l.place;
  each : (j : ℕ) → j < l.place → number_at l.list.items j ≡ number_at l.bounds j + number_at l.bounds j / 2 ^ 20 + 1;
}
