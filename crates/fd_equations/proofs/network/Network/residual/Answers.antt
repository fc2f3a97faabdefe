use Rattle.std.proofs.Common.{◌≡◌, ◌∙◌, ℕ, ◌<◌, length, get_or, None, ap, sym, subst, rules}
use Rattle.std.specs.List.{fold, All}
use Rattle.fd_pattern.specs.fd_system.Residual.{IsConstant, IsTerm, linear_interval, whole_state, with_part}
use Rattle.fd_pattern.specs.fd_system.System.{nonlinear_of}
use Rattle.fd_pattern.specs.Conditions.{IsNetwork}
use Rattle.fd_equations.specs.Rounded.{list_of}
use Rattle.fd_equations.proofs.Lists.{length-list_of, rewritten}
use Rattle.fd_equations.proofs.Networks.{constants_inside, row_holds, row_near, row_tie, rows_done, terms_inside}
use Rattle.fd_equations.proofs.network.Network.residual.Goals as goal
use Rattle.fd_equations.proofs.network.Network.residual.Goals.{After-add_load_intervals}

pub linear_rows-requires : goal.linear_rows-requires
linear_rows-requires c =
    let n = subst IsNetwork c.self.view_is c.self.invariant.0 in
    record {
      constants = subst (All (IsConstant (length c.args.x.now))) (sym (ap (λ v. v.stamp.constants) c.self.view_is))
          (constants_inside c.args.self.now c.args.x.now n c.requires);
      terms = subst (All (IsTerm (length c.args.x.now)))
          (sym (c.terms.ensures.terms ∙ ap (λ v. v.stamp.terms) c.self.view_is))
          (terms_inside c.args.self.now c.args.x.now n c.requires);
    }

pub add_load_intervals-requires-clause-long : goal.add_load_intervals-requires-clause-long
add_load_intervals-requires-clause-long c = ap length (c.deref_mut.ensures.value ∙ c.in_ok-rows.ensures) ∙ length-list_of (length c.args.x.now) _

linear : (c : After-add_load_intervals)
    → c.deref_mut.result.now
    ≡ list_of c.args.self.now.size
    (linear_interval c.args.self.now.stamp.constants c.args.self.now.stamp.terms c.args.x.now)
linear c =
    let cs = ap (λ v. v.stamp.constants) c.self.view_is in
    let ts = c.terms.ensures.terms ∙ ap (λ v. v.stamp.terms) c.self.view_is in
    c.deref_mut.ensures.value ∙ c.in_ok-rows.ensures ∙ (λ i. list_of (c.requires.long i) (linear_interval (cs i) (ts i) c.args.x.now))

grown : (c : After-add_load_intervals) → (l : ℕ) → l < length c.deref_mut.result.now
    → get_or c.add_load_intervals.new.rows l None
    ≡ fold (with_part l) (get_or c.deref_mut.result.now l None)
    (nonlinear_of c.args.self.now.stamp.loads (whole_state c.args.x.now))
grown c l h =
    c.add_load_intervals.ensures l h
    ∙ ap (λ us.
    fold (with_part l) (get_or c.deref_mut.result.now l None) (nonlinear_of us (whole_state c.args.x.now)))
    (c.loads.ensures.loads ∙ ap (λ v. v.stamp.loads) c.self.view_is)

pub returns : goal.returns
returns c =
    let v = c.args.self.now in
    let x = c.args.x.now in
    let n = subst IsNetwork c.self.view_is c.self.invariant.0 in
    let long : c.in_ok-rows.rows.len ≡ length c.add_load_intervals.new.rows = search rules in
    let rows = rewritten c.in_ok-rows.rows.items c.add_load_intervals.new.rows c.in_ok-rows.rows.len long
    ∙ rows_done v x n c.requires c.deref_mut.result.now c.add_load_intervals.new.rows (linear c.before) c.add_load_intervals.auto.rows (grown c.before) in
    record { rows = rows; holds = row_holds v x n c.requires _ rows; near = row_near v x n c.requires _ rows; tie = row_tie v x n c.requires _ rows }
