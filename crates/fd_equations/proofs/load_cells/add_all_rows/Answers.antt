use Rattle.std.proofs.Common.{◌*◌, ◌^◌, arith}
use Rattle.fd_equations.proofs.Growth.{room_after}
use Rattle.fd_equations.proofs.LoadCells.{all_grown, node_rows, node_rows_small}
use Rattle.fd_equations.proofs.load_cells.add_all_rows.Goals as goal

pub add_node_rows-requires-2-clause-room : goal.add_node_rows-requires-2-clause-room
add_node_rows-requires-2-clause-room c =
    let u = c.args.load.now in
    let s = c.args.slopes.now in
    room_after c.args.pattern.now.places c.args.cells.now c.add_node_rows.new.cells
    (node_rows u.first u s.real s.imaginary) (2 ^ 120) (10 * 2 ^ 73) (2 ^ 121) (2 ^ 27) 10 (2 ^ 28) (omega arith)
    (omega arith) c.add_node_rows.ensures c.requires.room
    (node_rows_small u.first u s.real s.imaginary c.requires.slopes.real c.requires.slopes.imaginary)

pub add_magnitude_row-requires-clause-room : goal.add_magnitude_row-requires-clause-room
add_magnitude_row-requires-clause-room c =
    let u = c.args.load.now in
    let s = c.args.slopes.now in
    let ps = c.args.pattern.now.places in
    let first =
    room_after ps c.args.cells.now c.add_node_rows.new.cells (node_rows u.first u s.real s.imaginary) (2 ^ 120)
    (10 * 2 ^ 73) (2 ^ 121) (2 ^ 27) 10 (2 ^ 28) (omega arith) (omega arith) c.add_node_rows.ensures c.requires.room
    (node_rows_small u.first u s.real s.imaginary c.requires.slopes.real c.requires.slopes.imaginary) in
    room_after ps c.add_node_rows.new.cells c.add_node_rows-2.new.cells
    (node_rows u.second u c.negated.result c.negated-2.result) (2 ^ 121) (10 * 2 ^ 73) (2 ^ 122) (2 ^ 28) 10 (2 ^ 29)
    (omega arith) (omega arith) c.add_node_rows-2.ensures first
    (node_rows_small u.second u c.negated.result c.negated-2.result c.negated.ensures.small c.negated-2.ensures.small)

pub returns : goal.returns
returns c =
    all_grown c.args.load.now c.args.slopes.now c.negated.result c.negated-2.result c.negated.ensures.value
    c.negated-2.ensures.value c.args.pattern.now.places c.args.cells.now c.add_node_rows.new.cells
    c.add_node_rows-2.new.cells c.add_magnitude_row.new.cells c.add_node_rows.ensures c.add_node_rows-2.ensures
    c.add_magnitude_row.ensures
