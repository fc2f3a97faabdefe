use Rattle.std.proofs.Common.{ℕ, ◌<◌}
use Rattle.fd_settle.specs.KeptStates.{IsKeptStateAt}
use Rattle.fd_settle.proofs.kept_states.KeptStates.find.Given as goal

abbrev pub invariant-loop-place : goal.invariant-loop-place
invariant-loop-place l = (k : ℕ) → k < l.place → IsKeptStateAt l.limits l.net l.self k → ⊥
