use Rattle.fd_equations.proofs.Products.{IsSummed}
use Rattle.fd_equations.proofs.sparse.row_product.Given as goal

abbrev pub invariant-loop-cell : goal.invariant-loop-cell
invariant-loop-cell l = IsSummed l.x l.cells l.cell-index l.sum
