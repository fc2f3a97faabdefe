use Rattle.std.proofs.Common.{◌≡◌, ◌∙◌, ℕ, ◌≤◌, ◌^◌, ◌+ℤ◌, nat_abs, length, ap, sym, subst, rules}
use Rattle.fd_mat.specs.fd_exact.States.{part}
use Rattle.fd_pattern.specs.Conditions.{IsNetwork}
use Rattle.fd_equations.specs.PartLoads.{loads_row}
use Rattle.fd_equations.specs.Rounded.{linear_residual_of}
use Rattle.fd_equations.proofs.Lists.{length-list_of, rewritten}
use Rattle.fd_equations.proofs.Networks.{rounded_is, rounded_small}
use Rattle.fd_equations.proofs.network.Network.rounded_residual.Goals as goal
use Rattle.fd_equations.proofs.network.Network.rounded_residual.Goals.{After-add_loads}

pub add_loads-requires-clause-long : goal.add_loads-requires-clause-long
add_loads-requires-clause-long c =
    ap length (c.deref_mut.ensures.value ∙ c.in_ok-rows.ensures.rows)
    ∙ length-list_of c.args.self.now.size _
    ∙ sym c.requires.long

grown : (c : After-add_loads) → (l : ℕ) → part c.add_loads.new.rows l ≡ part c.deref_mut.result.now l +ℤ loads_row c.args.self.now.stamp.loads c.args.x.now l
grown c l =
    c.add_loads.ensures l
    ∙ ap (λ us. part c.deref_mut.result.now l +ℤ loads_row us c.args.x.now l)
    (c.loads.ensures.loads ∙ ap (λ v. v.stamp.loads) c.self.view_is)

linear : (c : After-add_loads) → c.deref_mut.result.now ≡ linear_residual_of c.args.self.now c.args.x.now
linear c = c.deref_mut.ensures.value ∙ c.in_ok-rows.ensures.rows

pub returns-clause-rows : goal.returns-clause-rows
returns-clause-rows c =
    let long : c.in_ok-rows.rows.len ≡ length c.add_loads.new.rows = search rules in
    rewritten c.in_ok-rows.rows.items c.add_loads.new.rows c.in_ok-rows.rows.len long
    ∙ rounded_is c.args.self.now c.args.x.now c.deref_mut.result.now c.add_loads.new.rows (linear c.before) (grown c.before) c.add_loads.auto.rows

pub returns-clause-small : goal.returns-clause-small
returns-clause-small c = λ l.
    let long : c.in_ok-rows.rows.len ≡ length c.add_loads.new.rows = search rules in
    let small = λ (k : ℕ). subst (λ rs. nat_abs (part rs k) ≤ 2 ^ 85) (sym c.deref_mut.ensures.value) (c.in_ok-rows.ensures.small k) in
    subst (λ rs. nat_abs (part rs l) ≤ 2 ^ 86)
    (sym (rewritten c.in_ok-rows.rows.items c.add_loads.new.rows c.in_ok-rows.rows.len long))
    (rounded_small c.args.self.now c.args.x.now c.deref_mut.result.now c.add_loads.new.rows (linear c.before)
    (grown c.before) (subst IsNetwork c.self.view_is c.self.invariant.0) c.requires small l)
