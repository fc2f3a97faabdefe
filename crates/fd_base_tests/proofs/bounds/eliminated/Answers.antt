use Rattle.std.proofs.Common.{◌≡◌, List, [], ◌∷◌, subst, sym}
use Rattle.fd_base_tests.specs.InTurn.{in_turn}
use Rattle.fd_bounds.specs.Rows.{AreInOrder}
use Rattle.fd_bounds.specs.fd_triangles.Factors.{AreOrdered}
use Rattle.fd_bounds.specs.fd_triangles.declared.pair.Pair.{Pair}
use Rattle.fd_base_tests.proofs.bounds.eliminated.Goals as goal

pub bound_rows-requires : goal.bound_rows-requires
bound_rows-requires c =
    let equations = c.args.equations.now in
    let order : List Pair = c.pair.result ∷ c.pair-2.result ∷ c.pair-3.result ∷ [] in
    let a = c.pair.ensures in
    let b = c.pair-2.ensures in
    let d = c.pair-3.ensures in
    let is : in_turn ≡ order = cc in
    subst (AreInOrder equations) (sym c.deref-2.ensures.value)
    (c.in_order_law.ensures equations order c.in-Ok.rows.items (subst (AreOrdered equations) is c.requires) c.in-Ok.ensures)
