use Rattle.std.proofs.Common.{take}
use Rattle.fd_equations.specs.Amounts.{AreCells, of_terms}
use Rattle.fd_equations.proofs.cells.add_terms.Given as goal

abbrev pub invariant-loop-term : goal.invariant-loop-term
invariant-loop-term l = AreCells l.pattern.places l.cells (of_terms (take l.term-index l.terms))
