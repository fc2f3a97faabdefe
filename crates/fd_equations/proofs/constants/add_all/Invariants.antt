use Rattle.std.proofs.Common.{length}
use Rattle.fd_equations.proofs.Folds.{SumsTo}
use Rattle.fd_equations.proofs.constants.add_all.Given as goal

abbrev pub invariant-loop-constant : goal.invariant-loop-constant
invariant-loop-constant l = SumsTo l.rows l.constants (length l.initial.rows) l.constant-index
