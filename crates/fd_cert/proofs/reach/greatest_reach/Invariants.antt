use Rattle.std.proofs.Common.{◌≡◌, ℕ, length}
use Rattle.fd_enclosure.specs.fd_exact.Greatest.{greatest}
use Rattle.fd_enclosure.specs.fd_exact.States.{entry}
use Rattle.fd_cert.specs.Columns.{HasNumbers, HasWeights}
use Rattle.fd_cert.specs.Reaches.{reach_in}
use Rattle.fd_cert.proofs.reach.greatest_reach.Given as goal

abbrev pub invariant-loop-place : goal.invariant-loop-place
invariant-loop-place l =
    (w e : ℕ → ℕ) → HasWeights (length l.mismatch) l.weights w → HasNumbers (length l.mismatch) l.mismatch e
    → l.greatest ≡ greatest (reach_in (length l.mismatch) (entry l.inverse) w e) l.place
