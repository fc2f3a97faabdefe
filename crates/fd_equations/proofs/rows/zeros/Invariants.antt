use Rattle.std.proofs.Common.{◌≡◌, pos}
use Rattle.fd_pattern.specs.fd_arith.Interval.{capped}
use Rattle.fd_equations.specs.Rounded.{list_of}
use Rattle.fd_equations.proofs.rows.zeros.Given as goal

abbrev pub invariant-loop-row : goal.invariant-loop-row
invariant-loop-row l = l.rows.items ≡ list_of l._row (λ _. capped (pos 0) (pos 0))
