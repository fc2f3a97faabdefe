use Rattle.std.proofs.Common.{◌≡◌, ℕ, ◌<◌, length, get_or}
use Rattle.fd_pattern.specs.Patterns.{IsStart}
use Rattle.fd_pattern.proofs.pattern.starts_of.Given as goal

abbrev pub invariant-loop-row : goal.invariant-loop-row
invariant-loop-row l = record { long : length l.starts.items ≡ l.row; each : (r : ℕ) → r < l.row → IsStart l.places r (get_or l.starts.items r 0) }
