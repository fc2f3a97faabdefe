use Rattle.std.proofs.Common.{length}
use Rattle.fd_equations.proofs.Writing.{IsPut}
use Rattle.fd_equations.proofs.matrix.put.Given as goal

abbrev pub invariant-loop-k : goal.invariant-loop-k
invariant-loop-k l = IsPut (length l.fn.rows) l.places l.cells l.rows l.k
