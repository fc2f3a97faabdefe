use Rattle.std.proofs.Common.{◌≡◌, ◌∙◌, length, ap, sym, subst, Ok, Err, rules}
use Rattle.fd_equations.specs.fd_pattern.Conditions.{IsPoint}
use Rattle.fd_equations.proofs.CallerLemmas.{rewritten}
use Rattle.std.proofs.lemmas.Result.{err_from_is_err_and}
use Rattle.fd_inject.specs.Procedure.{last_from}
use Rattle.fd_inject.proofs.Iterates.{last_at, no_start}
use Rattle.fd_inject.proofs.Limited.{unless_more}
use Rattle.fd_inject.proofs.procedure.last_iterate.Goals as goal

pub returns-in_err-x-clause-last : goal.returns-in_err-x-clause-last
returns-in_err-x-clause-last c =
    let p = err_from_is_err_and c.from_residual.result c.from_residual.ensures.1 in
    rw (p.1, p.2) (unless_more c.in_err-x.field-0.0 (no_start c.args.net.now c.args.limits.now c.args.first.now
    c.in_err-x.field-0.0 c.requires.inverse)
    c.in_err-x.ensures.start)

pub iterate_from-requires-clause-point : goal.iterate_from-requires-clause-point
iterate_from-requires-clause-point c = subst (IsPoint c.args.net.now) (sym c.deref_mut.ensures.value) c.in_ok-x.ensures.point

pub returns-in_err-number-clause-last : goal.returns-in_err-number-clause-last
returns-in_err-number-clause-last c =
    let p = err_from_is_err_and c.from_residual-in_err-number.result c.from_residual-in_err-number.ensures.1 in
    rw (p.1, p.2) (unless_more c.in_err-number.field-0.0 (λ e.
    last_at c.args.net.now c.args.limits.now c.args.first.now c.in_ok-x.x.items
    (Err c.in_err-number.field-0.0) c.requires.inverse c.in_ok-x.ensures.start
    (ap (last_from c.args.net.now c.args.limits.now c.args.first.now) (sym c.deref_mut.ensures.value) ∙ e))
    c.in_err-number.ensures.last)

pub returns-clause-last : goal.returns-clause-last
returns-clause-last c =
    let n : c.in_ok-x.x.len ≡ length c.iterate_from.new.x = search rules in
    let same = rewritten c.in_ok-x.x.items c.iterate_from.new.x c.in_ok-x.x.len n in
    last_at c.args.net.now c.args.limits.now c.args.first.now c.in_ok-x.x.items _
    c.requires.inverse c.in_ok-x.ensures.start
    (ap (last_from c.args.net.now c.args.limits.now c.args.first.now) (sym c.deref_mut.ensures.value)
    ∙ c.in_ok-number.ensures.last
    ∙ ap (λ y. Ok (c.in_ok-number.number, y)) (sym same))

pub returns-clause-point : goal.returns-clause-point
returns-clause-point c =
    let n : c.in_ok-x.x.len ≡ length c.iterate_from.new.x = search rules in
    subst (IsPoint c.args.net.now) (sym (rewritten c.in_ok-x.x.items c.iterate_from.new.x c.in_ok-x.x.len n)) c.in_ok-number.ensures.point
