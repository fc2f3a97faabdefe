use Rattle.std.proofs.Common.{◌≡◌, ◌∙◌, length, map, ap, subst, rules}
use Rattle.fd_equations.specs.Amounts.{AreGrown, of_loads, without_slopes}
use Rattle.fd_equations.specs.PartLoads.{slopes_there}
use Rattle.fd_equations.proofs.Holding.{bare_room, matrix_made}
use Rattle.fd_equations.proofs.Lists.{rewritten}
use Rattle.fd_equations.proofs.sparse.Rows.jacobian.Goals as goal

pub add_slopes-requires-clause-room : goal.add_slopes-requires-clause-room
add_slopes-requires-clause-room c =
    let i = c.self.inside in
    bare_room i.pattern i.terms.items i.loads.items i.cells.items c.deref_mut.result.now c.self.invariant
    (c.deref_mut.ensures.value ∙ c.in_ok-cells.ensures ∙ ap (map without_slopes) c.deref.ensures.value)

pub returns : goal.returns
returns c =
    let i = c.self.inside in
    let long : c.in_ok-cells.cells.len ≡ length c.add_slopes.new.cells = search rules in
    let grown = subst (λ l.
    AreGrown i.pattern.places c.deref_mut.result.now c.add_slopes.new.cells (of_loads (slopes_there c.args.x.now) l))
    c.deref-2.ensures.value c.add_slopes.ensures.grown in
    matrix_made c.args.self.now i.pattern i.terms.items i.loads.items i.cells.items c.deref_mut.result.now
    c.add_slopes.new.cells _ (slopes_there c.args.x.now) c.new.result _ _ c.self.view_is c.self.invariant
    (c.deref_mut.ensures.value ∙ c.in_ok-cells.ensures ∙ ap (map without_slopes) c.deref.ensures.value) grown
    c.add_slopes.ensures.room c.add_slopes.auto.cells
    (rewritten c.in_ok-cells.cells.items c.add_slopes.new.cells c.in_ok-cells.cells.len long) c.new.ensures
