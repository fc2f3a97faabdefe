use Rattle.std.proofs.Common.{◌∙◌, ap, sym, Ok}
use Rattle.std.proofs.lemmas.Result.{err_from_is_err_and}
use Rattle.fd_inject.proofs.Products.{update_done, update_past}
use Rattle.fd_inject.proofs.Limited.{unless_always}
use Rattle.fd_inject.proofs.updates.update_for.Goals as goal

pub returns-in_err-test_range-clause-update : goal.returns-in_err-test_range-clause-update
returns-in_err-test_range-clause-update c =
    let p = err_from_is_err_and c.from_residual.result c.from_residual.ensures.1 in
    rw (p.1, p.2) (unless_always c.in_err-test_range.field-0.0 (update_past c.args.inverse.now c.args.step
    c.args.residual.now c.in_err-test_range.field-0.0 c.in_err-test_range.ensures.range))

pub returns-clause-update : goal.returns-clause-update
returns-clause-update c =
    update_done c.args.inverse.now c.args.step c.args.residual.now c.in_ok-test_range.ensures.range
    ∙ ap Ok (sym c.in_ok-update.ensures.update)
