use Rattle.std.proofs.Common.{◌≡◌, ◌∙◌, ◌<◌, IfOk, Some, ap, sym, subst}
use Rattle.fd_cert.specs.fd_enclosure.Boxes.{part_boxes}
use Rattle.fd_bounds.specs.fd_derived.Refusals.{first_refusal}
use Rattle.fd_rowcert.specs.Equations.{AreEquationsOf, HaveNumbersOf, Tells, first_wide_slopes}
use Rattle.fd_rowcert.specs.Rechecks.{first_of_rows, told, wide, rows_claim}
use Rattle.fd_rowcert.specs.declared.broken.BrokenRow.TheVariants as broken
use Rattle.fd_rowcert.proofs.Showing.{shown_by_rows}
use Rattle.fd_rowcert.proofs.rechecking.tested_at_state.Goals as goal

pub returns-in-Err-clause-told : goal.returns-in-Err-clause-told
returns-in-Err-clause-told c =
    let v = c.args.net.now in
    let x = c.args.centre.now in
    let d = c.args.rows.now in
    let t = subst (λ t. Tells (first_wide_slopes d.parts v x) t
    (λ s. AreEquationsOf v d.parts x c.args.mismatch.now s.equations.items))
    c.in-Err.is c.in_ok-row.ensures.equations in
    wide c.in-Err.row t (ap Some (ap broken.Slopes c.in-Err.row-is))

pub returns-in-Some-clause-told : goal.returns-in-Some-clause-told
returns-in-Some-clause-told c =
    let v = c.args.net.now in
    let x = c.args.centre.now in
    let d = c.args.rows.now in
    let e = c.args.mismatch.now in
    let t = subst (λ t. Tells (first_wide_slopes d.parts v x) t
    (λ s. AreEquationsOf v d.parts x e s.equations.items)) c.in-Ok.is c.in_ok-row.ensures.equations in
    let same = c.deref.ensures.value in
    told c.deref.result.now t.0 (subst (AreEquationsOf v d.parts x e) (sym same) t.1)
    (sym c.in-Some.is ∙ c.in_ok-broken-in-Ok.ensures.first
    ∙ ap (first_of_rows (first_refusal c.deref.result.now d.claim) d.claim.bounds.items c.args.radius.now)
    c.requires.bounds)

pub returns-clause-told : goal.returns-clause-told
returns-clause-told c =
    let v = c.args.net.now in
    let x = c.args.centre.now in
    let d = c.args.rows.now in
    let e = c.args.mismatch.now in
    let t = subst (λ t. Tells (first_wide_slopes d.parts v x) t
    (λ s. AreEquationsOf v d.parts x e s.equations.items)) c.in-Ok.is c.in_ok-row.ensures.equations in
    let same = c.deref.ensures.value in (
      told c.deref.result.now t.0 (subst (AreEquationsOf v d.parts x e) (sym same) t.1)
          (sym c.in-None.is ∙ c.in_ok-broken-in-Ok.ensures.first
          ∙ ap (first_of_rows (first_refusal c.deref.result.now d.claim) d.claim.bounds.items c.args.radius.now)
          c.requires.bounds),
      subst (λ t. IfOk t (λ s. s.boxes.items ≡ part_boxes d.parts v x)) c.in-Ok.is c.in_ok-row.ensures.boxes,
    )

pub returns-clause-shown : goal.returns-clause-shown
returns-clause-shown c =
    let v = c.args.net.now in
    let x = c.args.centre.now in
    let d = c.args.rows.now in
    let e = c.args.mismatch.now in
    let numbers = subst (λ t. IfOk t (λ s. HaveNumbersOf v d.parts x e s.equations.items)) c.in-Ok.is
    c.in_ok-row.ensures.numbers in
    shown_by_rows v (rows_claim v x c.args.radius.now e d) d c.deref.result.now (subst (HaveNumbersOf v d.parts x e)
    (sym c.deref.ensures.value) numbers)
    (c.in_ok-broken-in-Ok.ensures.accepted c.in-None.is)
    (λ j l. c.in_ok-broken-in-Ok.ensures.wide c.in-None.is j (subst (λ n. j < n) (sym c.requires.bounds) l))
