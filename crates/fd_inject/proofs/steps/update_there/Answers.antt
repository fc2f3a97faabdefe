use Rattle.std.proofs.Common.{◌≡◌, ◌∙◌, ap, sym}
use Rattle.fd_equations.specs.Rounded.{rounded_residual_of}
use Rattle.std.proofs.lemmas.Result.{err_from_is_err_and}
use Rattle.fd_inject.specs.Updates.{update_for}
use Rattle.fd_inject.proofs.Iterates.{residual_long}
use Rattle.fd_inject.proofs.Limited.{unless_more}
use Rattle.fd_inject.proofs.steps.update_there.Goals as goal
use Rattle.fd_inject.proofs.steps.update_there.Goals.{After-deref}

rows : (c : After-deref) → c.deref.result.now ≡ rounded_residual_of c.args.net.now c.args.x.now
rows c = c.deref.ensures.value ∙ c.in_ok-residual.ensures.rows

pub update_for-requires-clause-long : goal.update_for-requires-clause-long
update_for-requires-clause-long c = residual_long c.args.net.now c.args.x.now c.deref.result.now (rows c) ∙ sym c.requires.size

pub returns-in_err-update-clause-update : goal.returns-in_err-update-clause-update
returns-in_err-update-clause-update c =
    let p = err_from_is_err_and c.from_residual-in_err-update.result c.from_residual-in_err-update.ensures.1 in
    rw (p.1, p.2) (unless_more c.in_err-update.field-0.0 (λ e.
    ap (update_for c.args.inverse.now c.args.number) (sym (c.deref.ensures.value ∙ c.in_ok-residual.ensures.rows))
    ∙ e) c.in_err-update.ensures.update)

pub returns-clause-update : goal.returns-clause-update
returns-clause-update c =
    ap (update_for c.args.inverse.now c.args.number) (sym (c.deref.ensures.value ∙ c.in_ok-residual.ensures.rows))
    ∙ c.in_ok-update.ensures.update
