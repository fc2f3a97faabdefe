use Rattle.std.proofs.Common.{All, subst, sym}
use Rattle.std.specs.List.{Contains}
use Rattle.fd_pattern.specs.Patterns.{PatternView}
use Rattle.fd_equations.proofs.sparse.Rows.reaching.Goals as goal

pub returns-clause-places : goal.returns-clause-places
returns-clause-places c = subst (λ (p : PatternView). All (Contains p.places) c.args.places.items) (sym c.pattern.view_is) c.in_ok-pattern.ensures.has_all
