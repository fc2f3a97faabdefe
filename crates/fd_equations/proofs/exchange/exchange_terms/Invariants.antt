use Rattle.std.proofs.Common.{take}
use Rattle.fd_equations.specs.Amounts.{AreExchanged, of_terms}
use Rattle.fd_equations.proofs.exchange.exchange_terms.Given as goal

abbrev pub invariant-loop-k : goal.invariant-loop-k
invariant-loop-k l = AreExchanged l.pattern.places l.initial.cells l.cells (of_terms (take l.k l.old)) (of_terms (take l.k l.new))
