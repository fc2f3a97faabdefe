use Rattle.std.proofs.Common.{◌≡◌, ◌∙◌, ◌<◌, ◌^◌, length, All, ap, subst, sym, rules}
use Rattle.std.specs.List.{Contains}
use Rattle.fd_equations.specs.Amounts.{AreCells, RowsView, of_rows}
use Rattle.fd_pattern.specs.Conditions.{AreLinear}
use Rattle.fd_equations.specs.Holding.{AreRows}
use Rattle.fd_pattern.specs.PatternPlaces.{places_of}
use Rattle.fd_pattern.specs.Terminals.{IsConnected}
use Rattle.fd_equations.proofs.Holding.{held_rows}
use Rattle.fd_equations.proofs.Lists.{rewritten}
use Rattle.fd_equations.proofs.sparse.Rows.replace.Goals as goal

pub invariant_of-self : goal.invariant_of-self
invariant_of-self c =
    let p = c.self.inside.pattern in
    let terms = ap (λ x. x.items) c.swap.ensures.x_after in
    let loads = ap (λ x. x.items) c.swap-2.ensures.x_after in
    let long : c.self.inside.cells.len ≡ length c.renew.new.cells = search rules in
    let ts = c.deref-3.ensures.value ∙ terms in
    let us = c.deref-4.ensures.value ∙ loads in
    let sums = subst (λ f. AreCells p.places c.renew.new.cells f) (λ i. of_rows (ts i) (us i)) c.renew.ensures in
    let are = held_rows c.args.self.now p c.args.terms.now.items c.args.loads.now.items c.renew.new.cells
    (ap (λ (v : RowsView). v.size) c.self.view_is) (ap (λ (v : RowsView). v.places) c.self.view_is)
    c.self.invariant.small c.requires.held sums in
    let out = c.renew.new.cells in
    subst (AreRows p c.swap.new.x.items c.swap-2.new.x.items) (sym (rewritten c.self.inside.cells.items out c.self.inside.cells.len long))
    (subst (λ l. AreRows p l c.swap-2.new.x.items out) (sym terms) (subst (λ l. AreRows p c.args.terms.now.items l out) (sym loads) are))

pub returns-clause-old_held : goal.returns-clause-old_held
returns-clause-old_held c =
    let p = c.self.inside.pattern in
    let terms = sym (ap (λ y. y.items) c.swap.ensures.y_after) in
    let loads = sym (ap (λ y. y.items) c.swap-2.ensures.y_after) in
    record {
      linear = subst (AreLinear p.size) terms c.self.invariant.linear;
      loads = subst (All (IsConnected p.size)) loads c.self.invariant.loads;
      few = subst (λ l. length l < 2 ^ 21) loads c.self.invariant.few;
      reached = subst (All (Contains p.places)) (λ i. places_of (terms i) (loads i)) c.self.invariant.reached;
    }
