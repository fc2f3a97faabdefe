use Rattle.std.proofs.Common.{◌≡◌, ◌∙◌, length, ap, sym, subst, rules}
use Rattle.fd_pattern.specs.Coefficients.{linear_entry}
use Rattle.fd_pattern.specs.Conditions.{IsNetwork}
use Rattle.fd_equations.specs.Rounded.{constant_sum, products_added}
use Rattle.fd_equations.proofs.Lists.{length-list_of, rewritten}
use Rattle.fd_equations.proofs.Networks.{linear_is, linear_small}
use Rattle.fd_equations.proofs.network.Network.linear_residual.Goals as goal

pub add_products-requires-clause-rows : goal.add_products-requires-clause-rows
add_products-requires-clause-rows c =
    ap length (c.deref_mut.ensures.value ∙ c.in_ok-rows.ensures.sums) ∙ length-list_of c.args.self.now.size (constant_sum c.args.self.now.stamp.constants)
    ∙ sym (c.self.invariant.1 ∙ ap (λ v. v.size) c.self.view_is)

pub returns-clause-rows : goal.returns-clause-rows
returns-clause-rows c =
    let long : c.in_ok-rows.rows.len ≡ length c.add_products.new.rows = search rules in
    let size = c.self.invariant.1 ∙ ap (λ v. v.size) c.self.view_is in
    let terms = ap (λ v. v.stamp.terms) c.self.view_is in
    let rows = c.deref_mut.ensures.value ∙ c.in_ok-rows.ensures.sums in
    rewritten c.in_ok-rows.rows.items c.add_products.new.rows c.in_ok-rows.rows.len long ∙ c.add_products.ensures
    ∙ (λ i. products_added (size i) (linear_entry (terms i)) c.deref_mut.result.now c.args.x.now)
    ∙ linear_is c.args.self.now c.args.x.now c.deref_mut.result.now rows

pub returns-clause-small : goal.returns-clause-small
returns-clause-small c =
    let long : c.in_ok-rows.rows.len ≡ length c.add_products.new.rows = search rules in
    let size = c.self.invariant.1 ∙ ap (λ v. v.size) c.self.view_is in
    let terms = ap (λ v. v.stamp.terms) c.self.view_is in
    let rows = c.deref_mut.ensures.value ∙ c.in_ok-rows.ensures.sums in
    linear_small c.args.self.now c.args.x.now _ (subst IsNetwork c.self.view_is c.self.invariant.0) c.requires
    (rewritten c.in_ok-rows.rows.items c.add_products.new.rows c.in_ok-rows.rows.len long ∙ c.add_products.ensures
    ∙ (λ i. products_added (size i) (linear_entry (terms i)) c.deref_mut.result.now c.args.x.now)
    ∙ linear_is c.args.self.now c.args.x.now c.deref_mut.result.now rows)
