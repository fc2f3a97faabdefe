use Rattle.std.proofs.Common.{◌≡◌, ◌+◌, drop}
use Rattle.std.specs.Prelude.{◌==◌}
use Rattle.std.specs.List.{position_or_len}
use Rattle.fd_queue.proofs.places.place_of.Given as goal

abbrev pub invariant-loop-place : goal.invariant-loop-place
invariant-loop-place l =
    l.place + position_or_len (λ e. e.control == l.control) (drop l.place l.entries)
    ≡ position_or_len (λ e. e.control == l.control) l.entries
