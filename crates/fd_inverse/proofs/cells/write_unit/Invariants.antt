use Rattle.std.proofs.Common.{◌≡◌, ℕ, pos, ◌+◌, ◌*◌, ◌<◌, ◌^◌, ◌&&◌, ◌==◌, nat_lt, if◌then◌else◌}
use Rattle.fd_arith.specs.fd_exact.States.{cell}
use Rattle.fd_inverse.proofs.cells.write_unit.Given as goal

abbrev pub invariant-loop-row : goal.invariant-loop-row
invariant-loop-row l = (row place : ℕ) → row < l.n → place < 2 * l.n → cell l.cells (2 * l.n) row place
    ≡ (if nat_lt row l.row && (place == l.n + row) then pos (2 ^ 40) else cell l.fn.cells (2 * l.n) row place)
