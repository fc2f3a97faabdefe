use Rattle.fd_equations.specs.PartLoads.{slopes_there}
use Rattle.fd_equations.proofs.LoadCells.{IsSoFar}
use Rattle.fd_equations.proofs.load_cells.add_slopes.Given as goal

abbrev pub invariant-loop-load : goal.invariant-loop-load
invariant-loop-load l = IsSoFar l.pattern.places l.initial.cells l.cells (slopes_there l.x) l.loads l.load-index
