use Rattle.std.proofs.Common.{◌≡◌, ℕ, ◌<◌}
use Rattle.fd_equations.specs.Amounts.{cell_at, cell_of, nothing}
use Rattle.fd_pattern.specs.Patterns.{key}
use Rattle.fd_equations.proofs.cells.clear.Given as goal

abbrev pub invariant-loop-k : goal.invariant-loop-k
invariant-loop-k l = (j : ℕ) → j < l.k → cell_at l.cells j ≡ cell_of (key l.places j).1 nothing
