use Rattle.fd_cert.proofs.Units.{IsPartly}
use Rattle.fd_cert.proofs.sums.add_products.Given as goal

abbrev pub invariant-loop-cell : goal.invariant-loop-cell
invariant-loop-cell l = IsPartly l.cells l.fn.factor l.initial.sums l.sums l.cell-index
