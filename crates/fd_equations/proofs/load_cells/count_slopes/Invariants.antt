use Rattle.fd_equations.specs.PartLoads.{no_slopes}
use Rattle.fd_equations.proofs.LoadCells.{IsSoFar}
use Rattle.fd_equations.proofs.load_cells.count_slopes.Given as goal

abbrev pub invariant-loop-load : goal.invariant-loop-load
invariant-loop-load l = IsSoFar l.pattern.places l.initial.cells l.cells (λ u. no_slopes) l.loads l.load-index
