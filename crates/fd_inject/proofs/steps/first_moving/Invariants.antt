use Rattle.std.proofs.Common.{◌≡◌, ℕ, ◌<◌, false}
use Rattle.fd_inject.specs.Procedure.{is_moving_at}
use Rattle.fd_inject.proofs.steps.first_moving.Given as goal

abbrev pub invariant-loop-place : goal.invariant-loop-place
invariant-loop-place l = (k : ℕ) → k < l.place → is_moving_at l.net l.limits l.x l.update k ≡ false
