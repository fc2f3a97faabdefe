use Rattle.std.proofs.Common.{◌≡◌, ◌∙◌, length, pos, replicate, ap, sym, subst, rules}
use Rattle.std.specs.List.{All}
use Rattle.std.proofs.lemmas.List.{length-replicate}
use Rattle.fd_mat.specs.fd_exact.States.{part}
use Rattle.fd_pattern.specs.Conditions.{IsKnown}
use Rattle.fd_equations.specs.Rounded.{constant_sum, list_of}
use Rattle.fd_equations.proofs.Lists.{part-zeros, rewritten}
use Rattle.fd_equations.proofs.constants.constant_sums.Goals as goal
use Rattle.fd_equations.proofs.constants.constant_sums.Goals.{After-deref_mut}

zeros : (c : After-deref_mut) → c.deref_mut.result.now ≡ replicate c.args.size (pos 0)
zeros c = let items : c.in_ok-rows.rows.items ≡ replicate c.args.size (pos 0) = search rules in c.deref_mut.ensures.value ∙ items

long : (c : After-deref_mut) → length c.deref_mut.result.now ≡ c.args.size
long c = ap length (zeros c) ∙ length-replicate c.args.size (pos 0)

pub add_all-requires : goal.add_all-requires
add_all-requires c = record {
  known = subst (λ n. All (IsKnown n) c.args.constants.now) (sym (long c)) c.requires.known;
  few = c.requires.few;
  zero = λ row. ap (λ xs. part xs row) (zeros c) ∙ part-zeros c.args.size row;
}

pub returns : goal.returns
returns c =
    let items : c.in_ok-rows.rows.items ≡ replicate c.args.size (pos 0) = search rules in
    let n : c.in_ok-rows.rows.len ≡ length c.add_all.new.rows = search rules in
    rewritten c.in_ok-rows.rows.items c.add_all.new.rows c.in_ok-rows.rows.len n
    ∙ c.add_all.ensures
    ∙ ap (λ n. list_of n (constant_sum c.args.constants.now))
    (ap length (c.deref_mut.ensures.value ∙ items) ∙ length-replicate c.args.size (pos 0))
