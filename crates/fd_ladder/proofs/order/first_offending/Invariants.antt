use Rattle.std.proofs.Common.{◌≡◌, ℕ, ◌<◌, slice_get, false}
use Rattle.fd_ladder.specs.Radial.{offends_where}
use Rattle.fd_ladder.proofs.order.first_offending.Given as goal

-- none so far offends
abbrev pub invariant-loop-place : goal.invariant-loop-place
invariant-loop-place l = (k : ℕ) → k < l.place → offends_where l.order.keys k (slice_get l.elements.entries k) ≡ false
