use Rattle.std.proofs.Common.{subst, sym}
use Rattle.fd_equations.specs.Amounts.{AreCells, IsRowOf, of_rows}
use Rattle.fd_equations.proofs.sparse.Rows.row.Goals as goal

pub returns : goal.returns
returns c =
    let i = c.self.inside in
    let at = of_rows i.terms.items i.loads.items in
    let cells = subst (λ l. AreCells i.pattern.places l at) (sym c.deref.ensures.value) c.self.invariant.sums in
    subst (λ v. IsRowOf v.size (of_rows v.terms v.loads) c.args.row c.row_in.result.now) c.self.view_is (c.row_in.ensures at cells c.self.invariant.nothing)
