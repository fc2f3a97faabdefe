use Rattle.std.proofs.Common.{◌≡◌, ℕ, ℤ, ◌+◌, ◌*◌, ◌^◌, List, arith, refl, subst, sym}
use Rattle.fd_pattern.specs.fd_arith.declared.terms.NodeAt.{NodeAt}
use Rattle.fd_pattern.specs.fd_arith.declared.terms.NodeAt.TheVariants.{Ground, Node}
use Rattle.fd_equations.specs.declared.cells.Cell.{Cell}
use Rattle.fd_equations.specs.Amounts.{AreGrown, nothing}
use Rattle.fd_equations.proofs.Growth.{grown_as, grown_none, grown_then, room_after, slope_at}
use Rattle.fd_equations.proofs.LoadCells.{ground_step, node_in, node_step, slope_at_small}
use Rattle.fd_equations.proofs.Sizes.{kept_by}
use Rattle.fd_equations.proofs.load_cells.add_node.Goals as goal

pub add_slope-requires-in-Node-clause-room : goal.add_slope-requires-in-Node-clause-room
add_slope-requires-in-Node-clause-room c =
    let ps = c.args.pattern.now.places in
    let re = kept_by c.args.re (omega (arith, c.requires.re)) in
    let grown = subst (λ (z : ℤ). AreGrown ps c.args.cells.now c.add_slope.new.cells (slope_at c.args.row (2 * c.in-Node.k) z)) re c.add_slope.ensures in
    room_after ps c.args.cells.now c.add_slope.new.cells (slope_at c.args.row (2 * c.in-Node.k) c.args.re) (2 ^ 123)
    (2 ^ 73) (2 ^ 124) (2 ^ 30) 1 (2 ^ 31) (omega arith) (omega arith) grown c.requires.room
    (slope_at_small c.args.row (2 * c.in-Node.k) c.args.re c.requires.re)

pub returns-in-Node : goal.returns-in-Node
returns-in-Node c =
    let ps = c.args.pattern.now.places in
    let cells = c.args.cells.now in
    let k = c.in-Node.k in
    let re = subst (λ (z : ℤ). AreGrown ps cells c.add_slope.new.cells (slope_at c.args.row (2 * k) z))
    (kept_by c.args.re (omega (arith, c.requires.re))) c.add_slope.ensures in
    let im = subst (λ (z : ℤ).
    AreGrown ps c.add_slope.new.cells c.add_slope-in-Node.new.cells (slope_at c.args.row (2 * k + 1) z))
    (kept_by c.args.im (omega (arith, c.requires.im))) c.add_slope-in-Node.ensures in
    let both = grown_then ps cells c.add_slope.new.cells c.add_slope-in-Node.new.cells
    (slope_at c.args.row (2 * k) c.args.re) (slope_at c.args.row (2 * k + 1) c.args.im)
    (node_in c.args.row (Node k) c.args.re c.args.im) re im (node_step c.args.row k c.args.re c.args.im) in
    subst (λ (node : NodeAt). AreGrown ps cells c.add_slope-in-Node.new.cells (node_in c.args.row node c.args.re c.args.im)) (sym c.in-Node.is) both

at_ground : (ps : List (ℕ × ℕ)) (cells : List Cell) (row : ℕ) (re im : ℤ) (node : NodeAt)
    → ((k : ℕ) → ¬ (node ≡ Node k)) → AreGrown ps cells cells (node_in row node re im)
at_ground ps cells row re im Ground h = grown_as ps cells cells (λ p. nothing) (node_in row Ground re im) (grown_none ps cells) (ground_step row re im)
at_ground ps cells row re im (Node k) h = absurd (h k refl)

pub returns-in_default : goal.returns-in_default
returns-in_default c = at_ground c.args.pattern.now.places c.args.cells.now c.args.row c.args.re c.args.im c.args.node c.in_default.not-Node
