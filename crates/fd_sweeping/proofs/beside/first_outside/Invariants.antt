use Rattle.std.proofs.Common.{◌≡◌, ℕ, ◌<◌, false}
use Rattle.fd_solving.specs.fd_enclosure.Sound.{number_at}
use Rattle.fd_solving.specs.fd_pattern.Views.{kind_of}
use Rattle.fd_sweeping.specs.Beside.{apart_at, is_outside_by}
use Rattle.fd_sweeping.proofs.beside.first_outside.Given as goal

abbrev pub invariant-loop-place : goal.invariant-loop-place
invariant-loop-place l =
    (k : ℕ) → k < l.place → is_outside_by (kind_of l.net k) (number_at l.boxes k) (apart_at l.x l.centre k) ≡ false
