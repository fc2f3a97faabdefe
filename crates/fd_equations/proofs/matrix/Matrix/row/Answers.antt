use Rattle.fd_equations.proofs.WrittenOut.{matrix_row}
use Rattle.fd_equations.proofs.matrix.Matrix.row.Goals as goal

pub returns : goal.returns
returns c = λ at are none.
    let i = c.self.inside in
    matrix_row c.args.self.now i.pattern.now i.cells.items c.deref.result.now c.row_in.result.now c.args.row
    at c.self.view_is c.deref.ensures.value are none (c.row_in.ensures at)
