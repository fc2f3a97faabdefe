use Rattle.std.proofs.Common.{◌≡◌, ℕ, pos, ◌+◌, ◌*◌, ◌<◌, nat_lt, if◌then◌else◌, take}
use Rattle.fd_arith.specs.fd_exact.States.{cell}
use Rattle.fd_mat.specs.Sparse.{value_at}
use Rattle.fd_inverse.proofs.cells.write_held.Given as goal

abbrev pub invariant-loop-entry : goal.invariant-loop-entry
invariant-loop-entry l = (row place : ℕ) → row < l.n → place < 2 * l.n → cell l.cells (2 * l.n) row place
    ≡ (if nat_lt place l.n then value_at (take l.entry-index l.entries) (row * l.n + place) else pos 0)
