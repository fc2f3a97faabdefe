use Rattle.fd_equations.specs.PartLoads.{start_slopes}
use Rattle.fd_equations.proofs.LoadCells.{IsSoFar}
use Rattle.fd_equations.proofs.load_cells.add_start_slopes.Given as goal

abbrev pub invariant-loop-load : goal.invariant-loop-load
invariant-loop-load l = IsSoFar l.pattern.places l.initial.cells l.cells (λ u. start_slopes u.load) l.loads l.load-index
