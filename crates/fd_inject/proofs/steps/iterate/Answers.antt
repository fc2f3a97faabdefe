use Rattle.std.proofs.Common.{◌≡◌, ◌∙◌, ◌+◌, ◌<◌, ◌≤◌, ◌^◌, nat_abs, length, pos, IfSome, arith, ap, sym, subst, Err}
use Rattle.std.proofs.lemmas.List.{get_or_read}
use Rattle.std.proofs.lemmas.Result.{err_from_is_err_and}
use Rattle.fd_equations.specs.fd_exact.States.{part}
use Rattle.fd_inject.specs.Procedure.{first_moving}
use Rattle.fd_inject.specs.Ranges.{SizesWithin}
use Rattle.fd_inject.specs.declared.fault.SolveFault.TheVariants.{NotConverged}
use Rattle.fd_inject.proofs.Iterates.{judged_on, judged_out, next_fault, next_moving, next_still}
use Rattle.fd_inject.proofs.Limited.{unless_more}
use Rattle.fd_inject.proofs.Sizes.{kept_by}
use Rattle.fd_inject.proofs.steps.iterate.Goals as goal

pub returns-in_err-update-clause-next : goal.returns-in_err-update-clause-next
returns-in_err-update-clause-next c =
    let p = err_from_is_err_and c.from_residual.result c.from_residual.ensures.1 in
    rw (p.1, p.2) (unless_more c.in_err-update.field-0.0 (next_fault c.args.net.now c.args.inverse.now c.args.number
    c.args.x.now c.args.limits.now c.in_err-update.field-0.0)
    c.in_err-update.ensures.step)

pub first_moving-requires-clause-long : goal.first_moving-requires-clause-long
first_moving-requires-clause-long c = ap length c.deref.ensures.value ∙ c.in_ok-update.ensures.long

pub first_moving-requires-clause-small : goal.first_moving-requires-clause-small
first_moving-requires-clause-small c = subst (SizesWithin (2 ^ 86)) (sym c.deref.ensures.value) c.in_ok-update.ensures.small

pub returns-in-None-clause-next : goal.returns-in-None-clause-next
returns-in-None-clause-next c =
    next_still c.args.net.now c.args.inverse.now c.args.number c.args.x.now c.args.limits.now c.step.new.x
    c.in_ok-update.update.items c.in_ok-update.ensures.step
    (ap (first_moving c.args.net.now c.args.limits.now c.step.new.x) (sym c.deref.ensures.value)
    ∙ sym c.in_ok-moving.ensures.first
    ∙ c.in-None.is)

pub returns-then-steps-limits-clause-next : goal.returns-then-steps-limits-clause-next
returns-then-steps-limits-clause-next c =
    next_moving c.args.net.now c.args.inverse.now c.args.number c.args.x.now c.args.limits.now c.step.new.x
    c.in_ok-update.update.items c.in-Some.place _ c.in_ok-update.ensures.step
    (ap (first_moving c.args.net.now c.args.limits.now c.step.new.x) (sym c.deref.ensures.value)
    ∙ sym c.in_ok-moving.ensures.first ∙ c.in-Some.is)
    (judged_on c.args.limits.now (c.args.number + 1) c.in-Some.place c.step.new.x c.in_ok-update.update.items
    c.if-steps-limits.true)

pub index-requires : goal.index-requires
index-requires c = omega (arith, subst (λ o. IfSome o (λ p. p < c.args.net.now.size)) c.in-Some.is c.in_ok-moving.ensures.inside, c.in_ok-update.ensures.long)

pub returns-clause-next : goal.returns-clause-next
returns-clause-next c =
    let u = c.in_ok-update.update.items in
    let inside : c.in-Some.place < length u = omega (
      arith,
      subst (λ o. IfSome o (λ p. p < c.args.net.now.size)) c.in-Some.is c.in_ok-moving.ensures.inside,
      c.in_ok-update.ensures.long,
    ) in
    let at : c.index.result.now ≡ part u c.in-Some.place = get_or_read u c.in-Some.place c.index.result.now inside c.index.ensures (pos 0) in
    let kept = kept_by c.index.result.now (omega (arith, subst (λ z. nat_abs z ≤ 2 ^ 86) (sym at) (c.in_ok-update.ensures.small c.in-Some.place inside))) in
    next_moving c.args.net.now c.args.inverse.now c.args.number c.args.x.now c.args.limits.now c.step.new.x u c.in-Some.place _ c.in_ok-update.ensures.step
    (ap (first_moving c.args.net.now c.args.limits.now c.step.new.x) (sym c.deref.ensures.value) ∙ sym c.in_ok-moving.ensures.first ∙ c.in-Some.is)
    (judged_out c.args.limits.now (c.args.number + 1) c.in-Some.place c.step.new.x u c.if-steps-limits.false
    ∙ ap (λ z. Err (NotConverged c.in-Some.place (c.args.number + 1) z)) (sym (kept ∙ at)))
