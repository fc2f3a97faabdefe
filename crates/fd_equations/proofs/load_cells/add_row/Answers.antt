use Rattle.std.proofs.Common.{arith}
use Rattle.fd_equations.proofs.RowSteps.{after_first, after_second, row_done}
use Rattle.fd_equations.proofs.Sizes.{kept_by, negated_kept}
use Rattle.fd_equations.proofs.load_cells.add_row.Goals as goal

pub add_node-requires-2-clause-room : goal.add_node-requires-2-clause-room
add_node-requires-2-clause-room c =
    let r = c.args.slope in
    let s = c.requires.slope in
    after_first c.args.pattern.now.places c.args.cells.now c.add_node.new.cells c.add_node.new.cells c.add_node.new.cells c.args.row c.args.load.now r s _ _
    (kept_by r.p (omega (arith, s.p))) (kept_by r.q (omega (arith, s.q))) c.requires.room c.add_node.ensures

pub add_magnitude-requires-clause-room : goal.add_magnitude-requires-clause-room
add_magnitude-requires-clause-room c =
    let r = c.args.slope in
    let s = c.requires.slope in
    let ps = c.args.pattern.now.places in
    let p = kept_by r.p (omega (arith, s.p)) in
    let q = kept_by r.q (omega (arith, s.q)) in
    let m = negated_kept r.p (omega (arith, s.p)) in
    let n = negated_kept r.q (omega (arith, s.q)) in
    after_second ps c.args.cells.now c.add_node.new.cells c.add_node-2.new.cells c.add_node-2.new.cells c.args.row
    c.args.load.now r s _ _ m n (after_first ps c.args.cells.now c.add_node.new.cells c.add_node-2.new.cells
    c.add_node-2.new.cells c.args.row c.args.load.now r s _ _ p q c.requires.room c.add_node.ensures)
    c.add_node-2.ensures

pub returns : goal.returns
returns c =
    let r = c.args.slope in
    let s = c.requires.slope in
    let m = negated_kept r.p (omega (arith, s.p)) in
    let n = negated_kept r.q (omega (arith, s.q)) in
    row_done c.args.pattern.now.places c.args.cells.now c.add_node.new.cells c.add_node-2.new.cells
    c.add_magnitude.new.cells c.args.row c.args.load.now r s _ _ _ _ _ (kept_by r.p (omega (arith, s.p)))
    (kept_by r.q (omega (arith, s.q))) m n (kept_by r.m (omega (arith, s.m))) c.add_node.ensures c.add_node-2.ensures
    c.add_magnitude.ensures
