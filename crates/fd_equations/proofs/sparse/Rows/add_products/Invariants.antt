use Rattle.fd_equations.proofs.Products.{AreAdded}
use Rattle.fd_equations.proofs.sparse.Rows.add_products.Given as goal

abbrev pub invariant-loop-row : goal.invariant-loop-row
invariant-loop-row l = AreAdded l.self.terms l.x l.self.size l.initial.rows l.rows l.row
