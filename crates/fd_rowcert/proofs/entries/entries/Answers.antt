use Rattle.std.proofs.Common.{arith}
use Rattle.fd_rowcert.proofs.Cells.{cell_size}
use Rattle.fd_rowcert.proofs.entries.entries.Goals as goal

pub entry-requires : goal.entry-requires
entry-requires c =
    let l = cell_size c.args.cells.now c.loop-cell.cell-index c.loop-cell-test.true in
    omega (arith, l, c.requires)
