use Rattle.std.proofs.Common.{sym, subst, arith}
use Rattle.std.proofs.lemmas.Result.{err_from_is_err_and}
use Rattle.fd_substitution.specs.Substitution.{AreMoves}
use Rattle.fd_search.proofs.Changes.{changes_are, move_past}
use Rattle.fd_search.proofs.updates.update.Goals as goal

pub returns-in_err-test_range-clause-moves : goal.returns-in_err-test_range-clause-moves
returns-in_err-test_range-clause-moves c =
    let p = err_from_is_err_and c.from_residual.result c.from_residual.ensures.1 in
    rw (p.1, p.2) (move_past c.args.rows.now c.args.order.now c.args.right.now c.args.number
    c.in_err-test_range.field-0.0 c.in_err-test_range.ensures.range)

pub returns-clause-changes : goal.returns-clause-changes
returns-clause-changes c =
    changes_are c.args.rows.now c.args.order.now c.args.right.now c.turn.new.numbers c.deref.result.now
    (subst (AreMoves c.args.rows.now c.args.order.now c.args.right.now) (sym c.deref.ensures.value) c.in_ok-moves.ensures)
    c.turn.auto.numbers c.requires.long c.turn.ensures.turned

pub returns-clause-small : goal.returns-clause-small
returns-clause-small c = λ k h. c.turn.ensures.small k (omega (arith, h, c.turn.auto.numbers))
