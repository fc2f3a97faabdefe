use Rattle.std.proofs.Common.{ap, sym, subst}
use Rattle.std.specs.List.{All}
use Rattle.fd_pattern.specs.fd_system.Contributions.{AreSmall}
use Rattle.fd_pattern.specs.Coefficients.{linear_entry}
use Rattle.fd_equations.proofs.Elsewhere.{all_sums, sums_all}
use Rattle.fd_equations.proofs.sparse.Rows.are_within.Goals as goal

pub returns : goal.returns
returns c =
    let i = c.self.inside in
    let are = c.self.invariant in
    let cells = c.deref.ensures.value in (
      λ t row col.
          subst AreSmall (ap (λ v. linear_entry v.terms row col) c.self.view_is)
          (all_sums i.pattern.places i.cells.items i.terms.items i.loads.items are.sums are.nothing
          (subst (All (λ x. AreSmall x.units)) cells (c.are_small.ensures.0 t)) row col),
      λ all.
          c.are_small.ensures.1 (subst (All (λ x. AreSmall x.units)) (sym cells)
          (sums_all i.pattern.places i.cells.items i.terms.items i.loads.items are.sums (λ row col.
          subst AreSmall (sym (ap (λ v. linear_entry v.terms row col) c.self.view_is)) (all row col)))),
    )
