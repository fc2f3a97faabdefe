use Rattle.std.proofs.lemmas.Result.{err_from_is_err_and}
use Rattle.fd_inject.proofs.Iterates.{polish_first, polish_ok, polish_second}
use Rattle.fd_inject.proofs.Limited.{unless_more}
use Rattle.fd_inject.proofs.procedure.polish.Goals as goal

pub returns-in_err-step-clause-polish : goal.returns-in_err-step-clause-polish
returns-in_err-step-clause-polish c =
    let p = err_from_is_err_and c.from_residual.result c.from_residual.ensures.1 in
    rw (p.1, p.2) (unless_more c.in_err-step.field-0.0
    (polish_first c.args.net.now c.args.number c.args.x.now c.args.inverse.now c.in_err-step.field-0.0)
    c.in_err-step.ensures.step)

pub returns-in_err-step-2-clause-polish : goal.returns-in_err-step-2-clause-polish
returns-in_err-step-2-clause-polish c =
    let p = err_from_is_err_and c.from_residual-in_err-step-2.result c.from_residual-in_err-step-2.ensures.1 in
    rw (p.1, p.2) (unless_more c.in_err-step-2.field-0.0 (polish_second c.args.net.now c.args.number c.args.x.now
    c.args.inverse.now c.step.new.x _ c.in_err-step-2.field-0.0 c.in_ok-step.ensures.step)
    c.in_err-step-2.ensures.step)

pub returns-clause-polish : goal.returns-clause-polish
returns-clause-polish c =
    polish_ok c.args.net.now c.args.number c.args.x.now c.args.inverse.now c.step.new.x _ c.step-2.new.x _
    c.in_ok-step.ensures.step c.in_ok-step-2.ensures.step
