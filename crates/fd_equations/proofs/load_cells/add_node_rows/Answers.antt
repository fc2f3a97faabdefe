use Rattle.std.proofs.Common.{◌+◌, ◌*◌, ◌^◌, arith, subst, sym}
use Rattle.fd_pattern.specs.fd_arith.declared.terms.NodeAt.{NodeAt}
use Rattle.fd_pattern.specs.fd_arith.declared.terms.NodeAt.TheVariants.{Node}
use Rattle.fd_equations.specs.Amounts.{AreGrown}
use Rattle.fd_equations.proofs.Growth.{grown_then, room_after}
use Rattle.fd_equations.proofs.LoadCells.{node_rows, node_rows_step, row_in, row_in_small}
use Rattle.fd_equations.proofs.load_cells.add_node_rows.Goals as goal

pub add_row-requires-in-Node-clause-room : goal.add_row-requires-in-Node-clause-room
add_row-requires-in-Node-clause-room c =
    room_after c.args.pattern.now.places c.args.cells.now c.add_row.new.cells
    (row_in (2 * c.in-Node.k) c.args.load.now c.args.real) (2 ^ 121) (5 * 2 ^ 73) (2 ^ 122) (2 ^ 28) 5 (2 ^ 29)
    (omega arith) (omega arith) c.add_row.ensures c.requires.room
    (row_in_small (2 * c.in-Node.k) c.args.load.now c.args.real c.requires.real)

pub returns-in-Node : goal.returns-in-Node
returns-in-Node c =
    let ps = c.args.pattern.now.places in
    let cells = c.args.cells.now in
    let k = c.in-Node.k in
    let u = c.args.load.now in
    let both = grown_then ps cells c.add_row.new.cells c.add_row-in-Node.new.cells (row_in (2 * k) u c.args.real)
    (row_in (2 * k + 1) u c.args.imaginary) (node_rows (Node k) u c.args.real c.args.imaginary) c.add_row.ensures
    c.add_row-in-Node.ensures (node_rows_step k u c.args.real c.args.imaginary) in
    subst (λ (node : NodeAt). AreGrown ps cells c.add_row-in-Node.new.cells (node_rows node u c.args.real c.args.imaginary)) (sym c.in-Node.is) both
