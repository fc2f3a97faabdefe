use Rattle.std.proofs.Common.{◌≡◌, ◌∙◌, sym, subst, ap}
use Rattle.fd_enclosure.specs.Boxes.{boxes_of}
use Rattle.fd_cert.specs.Rechecks.{Tells, first_broken}
use Rattle.fd_cert.proofs.FirstBroken.{lists_same}
use Rattle.fd_cert.proofs.Rechecks.{sound_exactly}
use Rattle.fd_cert.proofs.rechecking.boxed.Goals as goal

pub returns-in-Ok-clause-sound : goal.returns-in-Ok-clause-sound
returns-in-Ok-clause-sound c =
    let v = c.args.net.now in
    let x = c.deref.result.now in
    let r = c.deref-2.result.now in
    let e = c.deref-3.result.now in
    let told = subst (λ t. Tells (first_broken v x r e c.args.inverse) t (λ boxes. boxes.items ≡ boxes_of v x)) c.in-Ok.is c.in_ok-boxes.ensures in
    let same = lists_same v x c.args.ball.centre.items r c.args.ball.radius.items e c.args.mismatch.items
    c.args.inverse c.deref.ensures.value c.deref-2.ensures.value c.deref-3.ensures.value in
    (sound_exactly v c.args.ball.centre.items c.args.ball.radius.items c.args.mismatch.items c.in-Ok.boxes.items c.args.inverse
    (λ point. told.1 ∙ ap (boxes_of v) c.deref.ensures.value)).0 (sym same ∙ told.0)
