use Rattle.std.proofs.Common.{◌≡◌, ℕ, ◌<◌, ◌≤◌, ◌^◌, nat_abs, length}
use Rattle.fd_enclosure.specs.fd_exact.States.{part}
use Rattle.fd_enclosure.specs.Sound.{number_at}
use Rattle.fd_cert.proofs.bounds.short_weights.Given as goal

abbrev pub invariant-loop-weight : goal.invariant-loop-weight
invariant-loop-weight l = record {
  long : length l.shorts.items ≡ l.weight-index;
  each : (j : ℕ) → j < l.weight-index → number_at l.shorts.items j ≡ nat_abs (part l.weights j);
  small : (j : ℕ) → j < l.weight-index → number_at l.shorts.items j ≤ 2 ^ 40;
}
