use Rattle.std.proofs.Common.{◌∙◌, length, take, get_or, pos, sym, subst, ap}
use Rattle.std.specs.List.{fold}
use Rattle.std.proofs.lemmas.List.{take_all}
use Rattle.std.proofs.lemmas.List.Elements.{All-get_or}
use Rattle.fd_pattern.specs.fd_system.Residual.{IsTerm, term_added}
use Rattle.fd_pattern.proofs.CallerLemmas.fd_system.{length-terms}
use Rattle.fd_equations.proofs.Folds.{fold_more}
use Rattle.fd_equations.proofs.rows.add_terms.Goals as goal

pub add_term-requires : goal.add_term-requires
add_term-requires c =
    let k = c.loop-term.term-index in
    let long = ap length c.loop-term.invariant ∙ length-terms c.args.x.now c.args.rows.now (take k c.args.terms.now) in
    record {
      term = subst (λ n. IsTerm n (get_or c.args.terms.now k (record { row = 0; col = 0; num = pos 0; den = pos 0 })))
          (sym long) (All-get_or (IsTerm (length c.args.rows.now)) c.args.terms.now k
          (record { row = 0; col = 0; num = pos 0; den = pos 0 }) c.loop-term-test.true c.requires.terms);
      same_length = long ∙ c.requires.same_length;
    }

pub loop-term-preserved : goal.loop-term-preserved
loop-term-preserved c =
    let k = c.loop-term.term-index in
    c.add_term.ensures
    ∙ ap (λ rows.
    term_added c.args.x.now rows (get_or c.args.terms.now k (record { row = 0; col = 0; num = pos 0; den = pos 0 })))
    c.loop-term.invariant
    ∙ sym (fold_more (term_added c.args.x.now) c.args.rows.now c.args.terms.now k
    (record { row = 0; col = 0; num = pos 0; den = pos 0 }) c.loop-term-test.true)

pub returns : goal.returns
returns c =
    c.loop-term.invariant
    ∙ ap (fold (term_added c.args.x.now) c.args.rows.now)
    (take_all c.loop-term.term-index c.args.terms.now c.loop-term-test.false)
