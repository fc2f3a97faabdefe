use Rattle.std.proofs.Common.{ℕ, List, IfOk, subst}
use Rattle.fd_cert.specs.fd_enclosure.fd_equations.Rounded.{jacobian_entry}
use Rattle.fd_bounds.specs.Results.{HasEnded}
use Rattle.fd_rowcert.specs.Boxed.{unbounded}
use Rattle.fd_rowcert.specs.Equations.{AreEquationsOf, HaveCoefficients}
use Rattle.fd_rowcert.proofs.bounding.in_box.Goals as goal

pub returns-in-Ok-bound_rows-clause-told : goal.returns-in-Ok-bound_rows-clause-told
returns-in-Ok-bound_rows-clause-told c = λ e h.
    let v = c.args.net.now in
    let x = c.args.x.now in
    let made = subst (λ t. IfOk t (λ _. (e : List ℕ)
    → HaveCoefficients v.size (jacobian_entry v x) e c.args.equations.now
    → AreEquationsOf v c.args.parts x e c.set_box.new.equations)) c.in-Ok.is c.in_ok-boxes.ensures.equations e h in
    record { equations = c.set_box.new.equations; are = made; first = c.in-Ok-bound_rows.ensures.exact }

pub returns-in-Err-Unbounded-clause-told : goal.returns-in-Err-Unbounded-clause-told
returns-in-Err-Unbounded-clause-told c = λ e h.
    let v = c.args.net.now in
    let x = c.args.x.now in
    let made = subst (λ t. IfOk t (λ _. (e : List ℕ)
    → HaveCoefficients v.size (jacobian_entry v x) e c.args.equations.now
    → AreEquationsOf v c.args.parts x e c.set_box.new.equations)) c.in-Ok.is c.in_ok-boxes.ensures.equations e h in
    unbounded c.set_box.new.equations made (subst
    (HasEnded c.set_box.new.equations c.args.rows.now) c.in-Err-Unbounded.field-0-is
    c.in-Err-Unbounded.ensures.exact)
