use Rattle.std.proofs.Common.{◌∙◌, ap, arith}
use Rattle.std.proofs.lemmas.Int.{ints}
use Rattle.fd_equations.specs.declared.cells.Cell.{Cell}
use Rattle.fd_equations.specs.Amounts.{RowsView}
use Rattle.fd_pattern.specs.Coefficients.{linear_entry}
use Rattle.fd_equations.proofs.Holding.{read_in}
use Rattle.fd_equations.proofs.sparse.Rows.entry.Goals as goal

pub returns : goal.returns
returns c =
    let i = c.self.inside in
    let cell =
    read_in i.pattern.places i.cells.items c.deref.result.now i.terms.items i.loads.items c.args.row c.args.col
    c.cell_in.result c.deref.ensures.value c.self.invariant.sums c.self.invariant.nothing c.cell_in.ensures in
    let e = ap (λ (x : Cell). x.units) cell ∙ ap (λ (v : RowsView). linear_entry v.terms c.args.row c.args.col) c.self.view_is in
    omega (arith, ints, e)
