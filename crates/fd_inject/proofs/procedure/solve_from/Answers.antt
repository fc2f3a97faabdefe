use Rattle.std.proofs.Common.{◌≡◌, ◌∙◌, length, ap, sym, subst, Ok, Err, rules}
use Rattle.fd_equations.specs.fd_pattern.Conditions.{IsPoint}
use Rattle.fd_equations.specs.Rounded.{jacobian_of}
use Rattle.fd_equations.proofs.CallerLemmas.{rewritten}
use Rattle.std.proofs.lemmas.Result.{err_from_is_err_and}
use Rattle.fd_inject.specs.Procedure.{polished}
use Rattle.fd_inject.specs.Ranges.{inverse_at}
use Rattle.fd_inject.proofs.Iterates.{no_inverse_there, no_last, solved}
use Rattle.fd_inject.proofs.Inside.{fault_inside}
use Rattle.fd_inject.proofs.Limited.{unless_more}
use Rattle.fd_inject.proofs.procedure.solve_from.Goals as goal

pub returns-in_err-last-clause-fault : goal.returns-in_err-last-clause-fault
returns-in_err-last-clause-fault c =
    let p = err_from_is_err_and c.from_residual.result c.from_residual.ensures.1 in
    rw (p.1, p.2) (unless_more c.in_err-last.field-0.0 (no_last c.args.net.now c.args.limits.now c.in_err-last.field-0.0) c.in_err-last.ensures.last)

pub returns-in_err-last-clause-within : goal.returns-in_err-last-clause-within
returns-in_err-last-clause-within c =
    let p = err_from_is_err_and c.from_residual.result c.from_residual.ensures.1 in
    rw (p.1, p.2) (fault_inside c.args.net.now c.args.limits.now c.in_err-last.field-0.0
    (unless_more c.in_err-last.field-0.0 (no_last c.args.net.now c.args.limits.now c.in_err-last.field-0.0)
    c.in_err-last.ensures.last))

pub inverse_there-requires : goal.inverse_there-requires
inverse_there-requires c = subst (IsPoint c.args.net.now) (sym c.deref.ensures.value) c.in_ok-last.ensures.point

pub returns-in_err-inverse-clause-fault : goal.returns-in_err-inverse-clause-fault
returns-in_err-inverse-clause-fault c =
    let p = err_from_is_err_and c.from_residual-in_err-inverse.result c.from_residual-in_err-inverse.ensures.1 in
    rw (p.1, p.2) (unless_more c.in_err-inverse.field-0.0 (λ e.
    no_inverse_there c.args.net.now c.args.limits.now c.in_ok-last.last.number c.in_ok-last.last.x.items
    c.in_err-inverse.field-0.0 c.in_ok-last.ensures.last
    (ap (λ x. inverse_at (jacobian_of c.args.net.now x)) (sym c.deref.ensures.value) ∙ e))
    c.in_err-inverse.ensures.inverse)

pub returns-in_err-inverse-clause-within : goal.returns-in_err-inverse-clause-within
returns-in_err-inverse-clause-within c =
    let p = err_from_is_err_and c.from_residual-in_err-inverse.result c.from_residual-in_err-inverse.ensures.1 in
    rw (p.1, p.2) (fault_inside c.args.net.now c.args.limits.now c.in_err-inverse.field-0.0
    (unless_more c.in_err-inverse.field-0.0 (λ e. no_inverse_there c.args.net.now c.args.limits.now
    c.in_ok-last.last.number c.in_ok-last.last.x.items c.in_err-inverse.field-0.0 c.in_ok-last.ensures.last
    (ap (λ x. inverse_at (jacobian_of c.args.net.now x)) (sym c.deref.ensures.value) ∙ e))
    c.in_err-inverse.ensures.inverse))

pub polish-requires-clause-point : goal.polish-requires-clause-point
polish-requires-clause-point c = subst (IsPoint c.args.net.now) (sym c.deref_mut.ensures.value) c.in_ok-last.ensures.point

pub returns-in_err-polish-clause-fault : goal.returns-in_err-polish-clause-fault
returns-in_err-polish-clause-fault c =
    let p = err_from_is_err_and c.from_residual-in_err-polish.result c.from_residual-in_err-polish.ensures.1 in
    rw (p.1, p.2) (unless_more c.in_err-polish.field-0.0 (λ e.
    solved c.args.net.now c.args.limits.now c.in_ok-last.last.number c.in_ok-last.last.x.items c.in_ok-inverse.inverse
    (Err c.in_err-polish.field-0.0) c.in_ok-last.ensures.last
    (ap (λ x. inverse_at (jacobian_of c.args.net.now x)) (sym c.deref.ensures.value)
    ∙ c.in_ok-inverse.ensures.inverse)
    (ap (λ x. polished c.args.net.now c.in_ok-last.last.number x c.in_ok-inverse.inverse)
    (sym c.deref_mut.ensures.value) ∙ e)) c.in_err-polish.ensures.polish)

pub returns-in_err-polish-clause-within : goal.returns-in_err-polish-clause-within
returns-in_err-polish-clause-within c =
    let p = err_from_is_err_and c.from_residual-in_err-polish.result c.from_residual-in_err-polish.ensures.1 in
    rw (p.1, p.2) (fault_inside c.args.net.now c.args.limits.now c.in_err-polish.field-0.0
    (unless_more c.in_err-polish.field-0.0 (λ e.
    solved c.args.net.now c.args.limits.now c.in_ok-last.last.number c.in_ok-last.last.x.items c.in_ok-inverse.inverse
    (Err c.in_err-polish.field-0.0) c.in_ok-last.ensures.last
    (ap (λ x. inverse_at (jacobian_of c.args.net.now x)) (sym c.deref.ensures.value)
    ∙ c.in_ok-inverse.ensures.inverse)
    (ap (λ x. polished c.args.net.now c.in_ok-last.last.number x c.in_ok-inverse.inverse)
    (sym c.deref_mut.ensures.value) ∙ e)) c.in_err-polish.ensures.polish))

pub returns-clause-point : goal.returns-clause-point
returns-clause-point c =
    let n : c.in_ok-last.last.x.len ≡ length c.polish.new.x = search rules in
    let same = rewritten c.in_ok-last.last.x.items c.polish.new.x c.in_ok-last.last.x.len n in
    solved c.args.net.now c.args.limits.now c.in_ok-last.last.number c.in_ok-last.last.x.items c.in_ok-inverse.inverse
    _ c.in_ok-last.ensures.last (ap (λ x. inverse_at (jacobian_of c.args.net.now x)) (sym c.deref.ensures.value)
    ∙ c.in_ok-inverse.ensures.inverse)
    (ap (λ x. polished c.args.net.now c.in_ok-last.last.number x c.in_ok-inverse.inverse)
    (sym c.deref_mut.ensures.value)
    ∙ c.in_ok-polish.ensures.polish
    ∙ ap (λ y. Ok (y, c.in_ok-inverse.inverse)) (sym same))

pub returns-clause-parts : goal.returns-clause-parts
returns-clause-parts c =
    let n : c.in_ok-last.last.x.len ≡ length c.polish.new.x = search rules in
    subst (IsPoint c.args.net.now) (sym (rewritten c.in_ok-last.last.x.items c.polish.new.x c.in_ok-last.last.x.len n)) c.in_ok-polish.ensures.point
