use Rattle.fd_cert.proofs.Copies.{AreRows}
use Rattle.fd_cert.proofs.widening.copy_of.Given as goal

abbrev pub invariant-loop-row : goal.invariant-loop-row
invariant-loop-row l = AreRows l.square l.row l.cells.items
