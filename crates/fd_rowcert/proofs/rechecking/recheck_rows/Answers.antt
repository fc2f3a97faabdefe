use Rattle.std.proofs.Common.{◌≡◌, subst}
use Rattle.std.proofs.Math.Path.{transport}
use Rattle.fd_cert.specs.fd_enclosure.Boxes.{part_boxes}
use Rattle.fd_rowcert.specs.Rechecks.{IsFirst, TellsFirst}
use Rattle.fd_rowcert.proofs.Tests.{is_claim}
use Rattle.fd_rowcert.proofs.rechecking.recheck_rows.Goals as goal

pub returns-in-Ok-clause-first : goal.returns-in-Ok-clause-first
returns-in-Ok-clause-first c =
    let v = c.args.net.now in
    let d = c.args.rows in
    let x = c.deref.ensures.value in
    let r = c.deref-2.ensures.value in
    let e = c.deref-3.ensures.value in
    let t = subst (λ t. TellsFirst (IsFirst v c.args.ball.centre.items c.args.ball.radius.items c.args.mismatch.items
    d) t
    (λ boxes. boxes.items ≡ part_boxes d.parts v c.args.ball.centre.items)) c.in-Ok.is
    (transport (λ i. TellsFirst (IsFirst v (x i) (r i) (e i) d) c.in_ok-boxes.field-0
    (λ boxes. boxes.items ≡ part_boxes d.parts v (x i))) c.in_ok-boxes.ensures.told) in
    (t.0, is_claim v c.args.ball.centre.items c.args.ball.radius.items c.args.mismatch.items d c.in-Ok.boxes.items t.1)

pub returns-in-Err-clause-first : goal.returns-in-Err-clause-first
returns-in-Err-clause-first c =
    let v = c.args.net.now in
    let d = c.args.rows in
    let x = c.deref.ensures.value in
    let r = c.deref-2.ensures.value in
    let e = c.deref-3.ensures.value in
    subst (λ t. TellsFirst (IsFirst v c.args.ball.centre.items c.args.ball.radius.items c.args.mismatch.items d) t
    (λ boxes. boxes.items ≡ part_boxes d.parts v c.args.ball.centre.items)) c.in-Err.is
    (transport (λ i. TellsFirst (IsFirst v (x i) (r i) (e i) d) c.in_ok-boxes.field-0
    (λ boxes. boxes.items ≡ part_boxes d.parts v (x i))) c.in_ok-boxes.ensures.told)
