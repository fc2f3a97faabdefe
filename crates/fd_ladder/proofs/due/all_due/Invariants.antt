use Rattle.std.proofs.Common.{◌≡◌, ℕ, nat_lt}
use Rattle.fd_ladder.specs.Due.{is_due}
use Rattle.fd_ladder.proofs.due.all_due.Given as goal

-- the places so far
abbrev pub invariant-loop-place : goal.invariant-loop-place
invariant-loop-place l = (place : ℕ) → is_due l.due place ≡ nat_lt place l.place
