use Rattle.std.proofs.Common.{◌≡◌, take}
use Rattle.std.specs.List.{fold}
use Rattle.fd_pattern.specs.fd_system.Residual.{term_added}
use Rattle.fd_equations.proofs.rows.add_terms.Given as goal

abbrev pub invariant-loop-term : goal.invariant-loop-term
invariant-loop-term l = l.rows ≡ fold (term_added l.x) l.initial.rows (take l.term-index l.terms)
