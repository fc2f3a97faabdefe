use Rattle.std.proofs.Common.{◌≡◌, ◌+◌, drop}
use Rattle.std.specs.Prelude.{nat_lt}
use Rattle.std.specs.List.{position_or_len}
use Rattle.fd_queue.proofs.places.place_after.Given as goal

abbrev pub invariant-loop-place : goal.invariant-loop-place
invariant-loop-place l =
    l.place + position_or_len (λ e. nat_lt l.time e.time) (drop l.place l.entries)
    ≡ position_or_len (λ e. nat_lt l.time e.time) l.entries
