use Rattle.std.proofs.Common.{ℕ, ◌<◌}
use Rattle.fd_inject.specs.Kept.{IsKeptAt}
use Rattle.fd_inject.proofs.kept.Kept.find.Given as goal

abbrev pub invariant-loop-place : goal.invariant-loop-place
invariant-loop-place l = (k : ℕ) → k < l.place → IsKeptAt l.matrix l.self k → ⊥
