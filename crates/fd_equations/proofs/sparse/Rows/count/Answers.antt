use Rattle.std.proofs.Common.{◌∙◌, ◌+◌, ap, arith}
use Rattle.fd_equations.specs.declared.cells.Cell.{Cell}
use Rattle.fd_equations.specs.Amounts.{RowsView}
use Rattle.fd_pattern.specs.Coefficients.{count_at}
use Rattle.fd_equations.specs.PartLoads.{slope_counts}
use Rattle.fd_equations.proofs.Counting.{count_size, slopes_few}
use Rattle.fd_equations.proofs.Holding.{read_in}
use Rattle.fd_equations.proofs.sparse.Rows.count.Goals as goal

pub overflow_add-result : goal.overflow_add-result
overflow_add-result c =
    let i = c.self.inside in
    let are = c.self.invariant in
    let cell = read_in i.pattern.places i.cells.items c.deref.result.now i.terms.items i.loads.items c.args.row
    c.args.col c.cell_in-cell.result c.deref.ensures.value are.sums are.nothing c.cell_in-cell.ensures in
    omega (
      arith,
      ap (λ (x : Cell). x.count) cell,
      ap (λ (x : Cell). x.slopes) cell,
      count_size i.terms.items c.args.row c.args.col,
      slopes_few i.loads.items c.args.row c.args.col,
      are.linear.few,
      are.few,
    )

pub returns : goal.returns
returns c =
    let i = c.self.inside in
    let are = c.self.invariant in
    let cell = read_in i.pattern.places i.cells.items c.deref.result.now i.terms.items i.loads.items c.args.row
    c.args.col c.cell_in-cell.result c.deref.ensures.value are.sums are.nothing c.cell_in-cell.ensures in
    ap (λ (x : Cell). x.count + x.slopes) cell
    ∙ ap (λ (v : RowsView). count_at v.terms c.args.row c.args.col + slope_counts v.loads c.args.row c.args.col)
    c.self.view_is
