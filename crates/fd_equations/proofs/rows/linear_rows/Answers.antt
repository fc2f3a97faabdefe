use Rattle.std.proofs.Common.{◌≡◌, ◌∙◌, length, pos, ap, sym, subst, rules}
use Rattle.std.specs.List.{All, fold}
use Rattle.fd_pattern.specs.fd_arith.Interval.{capped}
use Rattle.fd_pattern.specs.fd_system.Residual.{IsConstant, IsTerm, constant_added, term_added}
use Rattle.fd_equations.specs.Rounded.{list_of}
use Rattle.fd_equations.proofs.Folds.{linear_table}
use Rattle.fd_equations.proofs.Lists.{length-list_of, rewritten}
use Rattle.fd_equations.proofs.rows.linear_rows.Goals as goal
use Rattle.fd_equations.proofs.rows.linear_rows.Goals.{After-deref_mut}

zeros : (c : After-deref_mut) → c.deref_mut.result.now ≡ list_of (length c.args.x.now) (λ _. capped (pos 0) (pos 0))
zeros c = c.deref_mut.ensures.value ∙ c.in_ok-rows.ensures

long : (c : After-deref_mut) → length c.deref_mut.result.now ≡ length c.args.x.now
long c = ap length (zeros c) ∙ length-list_of (length c.args.x.now) (λ _. capped (pos 0) (pos 0))

pub add_linear-requires : goal.add_linear-requires
add_linear-requires c = record {
  constants = subst (λ n. All (IsConstant n) c.args.constants.now) (sym (long c)) c.requires.constants;
  terms = subst (λ n. All (IsTerm n) c.args.terms.now) (sym (long c)) c.requires.terms;
  same_length = long c;
}

pub returns : goal.returns
returns c =
    let n : c.in_ok-rows.rows.len ≡ length c.add_linear.new.rows = search rules in
    rewritten c.in_ok-rows.rows.items c.add_linear.new.rows c.in_ok-rows.rows.len n
    ∙ c.add_linear.ensures
    ∙ ap (λ rows. fold (term_added c.args.x.now) (fold constant_added rows c.args.constants.now) c.args.terms.now)
    (c.deref_mut.ensures.value ∙ c.in_ok-rows.ensures)
    ∙ linear_table (length c.args.x.now) c.args.constants.now c.args.terms.now c.args.x.now
