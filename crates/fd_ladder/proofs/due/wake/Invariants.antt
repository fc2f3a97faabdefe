use Rattle.std.proofs.Common.{◌≡◌, ℕ, ◌||◌, nat_eq, take}
use Rattle.std.specs.List.{list_any}
use Rattle.fd_ladder.specs.Due.{is_due}
use Rattle.fd_ladder.proofs.due.wake.Given as goal

-- the places so far are due too
abbrev pub invariant-loop-place : goal.invariant-loop-place
invariant-loop-place l = (other : ℕ) → is_due l.due other ≡ (is_due l.fn.due other || list_any (nat_eq other) (take l.place-index l.place-items))
