use Rattle.std.proofs.Common.{◌≡◌, ◌∙◌, ◌≤◌, List, length, All, ap, sym, subst, Ok}
use Rattle.std.proofs.lemmas.Result.{err_from_is_err_and}
use Rattle.fd_inject.specs.Kept.{IsInverted, with_latest}
use Rattle.fd_inject.specs.Ranges.{inverse_at}
use Rattle.fd_inject.specs.declared.kept.KeptPair.{KeptPair}
use Rattle.fd_inject.proofs.Inside.{fault_inside}
use Rattle.fd_inject.proofs.Iterates.{no_last, no_start_inverse, start_long}
use Rattle.fd_inject.proofs.Limited.{unless_more}
use Rattle.fd_inject.proofs.Pairs.{latest_are}
use Rattle.fd_inject.proofs.kept.solve_anew.Goals as goal

pub returns-in_err-first-clause-fault : goal.returns-in_err-first-clause-fault
returns-in_err-first-clause-fault c =
    let p = err_from_is_err_and c.from_residual-in_err-first.result c.from_residual-in_err-first.ensures.1 in
    rw (p.1, p.2) (unless_more c.in_err-first.field-0.0 (λ e.
    no_last c.args.net.now c.args.limits.now c.in_err-first.field-0.0 (no_start_inverse c.args.net.now c.args.limits.now
    c.in_err-first.field-0.0 (ap inverse_at (sym c.requires.start) ∙ e)))
    c.in_err-first.ensures.inverse)

pub returns-in_err-first-clause-within : goal.returns-in_err-first-clause-within
returns-in_err-first-clause-within c =
    let p = err_from_is_err_and c.from_residual-in_err-first.result c.from_residual-in_err-first.ensures.1 in
    rw (p.1, p.2) (fault_inside c.args.net.now c.args.limits.now c.in_err-first.field-0.0
    (unless_more c.in_err-first.field-0.0 (λ e.
    no_last c.args.net.now c.args.limits.now c.in_err-first.field-0.0 (no_start_inverse c.args.net.now c.args.limits.now
    c.in_err-first.field-0.0 (ap inverse_at (sym c.requires.start) ∙ e)))
    c.in_err-first.ensures.inverse))

pub solve_from-requires-clause-inverse : goal.solve_from-requires-clause-inverse
solve_from-requires-clause-inverse c = ap inverse_at (sym c.requires.start) ∙ c.in_ok-first.ensures.inverse

pub solve_from-requires-clause-size : goal.solve_from-requires-clause-size
solve_from-requires-clause-size c = c.in_ok-first.ensures.size ∙ start_long c.args.net.now c.args.matrix c.requires.start

pub invariant_of-kept-2 : goal.invariant_of-kept-2
invariant_of-kept-2 c =
    let pair : KeptPair = record { matrix = c.args.matrix; inverse = c.in_ok-first.first } in
    subst (λ (ps : List KeptPair). (length ps ≤ 4) × All IsInverted ps)
    (sym (c.in_ok-put_latest.ensures.put ∙ ap (with_latest pair) c.in_ok-reserve.ensures.items))
    (latest_are pair c.kept.inside.pairs.items c.kept.invariant.0 c.kept.invariant.1 c.in_ok-first.ensures.inverse)
