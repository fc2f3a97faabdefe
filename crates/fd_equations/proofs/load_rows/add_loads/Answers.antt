use Rattle.std.proofs.Common.{◌∙◌, ◌+ℤ◌, take, get_or, ap, sym, arith}
use Rattle.fd_mat.specs.fd_exact.States.{part}
use Rattle.fd_equations.specs.PartLoads.{load_row, loads_row}
use Rattle.fd_equations.proofs.AtTerminals.{added_two}
use Rattle.fd_equations.proofs.Lists.{list_z_more}
use Rattle.fd_equations.proofs.LoadSums.{no_load, row_room}
use Rattle.fd_equations.proofs.load_rows.add_loads.Goals as goal

pub add_load-requires-clause-room : goal.add_load-requires-clause-room
add_load-requires-clause-room c = λ row.
    let room = row_room c.args.x.now row c.args.loads.now c.loop-load.load-index (part c.args.rows.now row)
    c.requires.parts c.requires.loads c.requires.few (c.requires.room row) in
    rw (c.loop-load.invariant row) (omega arith)

pub loop-load-preserved : goal.loop-load-preserved
loop-load-preserved c = λ row.
    let us = c.args.loads.now in
    let k = c.loop-load.load-index in
    let x = c.args.x.now in
    c.add_load.ensures row ∙ ap (λ z. z +ℤ load_row x row (get_or us k no_load)) (c.loop-load.invariant row)
    ∙ added_two (part c.args.rows.now row) (loads_row (take k us) x row) (load_row x row (get_or us k no_load))
    ∙ ap (λ z. part c.args.rows.now row +ℤ z) (sym (list_z_more (load_row x row) us k no_load c.loop-load-test.true))
