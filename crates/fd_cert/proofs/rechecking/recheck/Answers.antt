use Rattle.std.proofs.Common.{◌≡◌, ◌∙◌, Some, None, sym, subst}
use Rattle.fd_enclosure.specs.Boxes.{boxes_of}
use Rattle.fd_cert.specs.Rechecks.{Tells, first_broken}
use Rattle.fd_cert.proofs.FirstBroken.{broken_same, says_sound}
use Rattle.fd_cert.proofs.rechecking.recheck.Goals as goal

pub returns-in-Ok-clause-sound : goal.returns-in-Ok-clause-sound
returns-in-Ok-clause-sound c =
    let v = c.args.net.now in
    let x = c.deref.result.now in
    let r = c.deref-2.result.now in
    let e = c.args.mismatch.now in
    let s = c.args.inverse.now in
    let told = subst (λ t. Tells (first_broken v x r e s) t (λ boxes. boxes.items ≡ boxes_of v x)) c.in-Ok.is c.in_ok-_boxes.ensures in
    says_sound v c.args.ball.now.centre.items c.args.ball.now.radius.items e s None (sym told.0
    ∙ broken_same v x c.args.ball.now.centre.items r c.args.ball.now.radius.items e s c.deref.ensures.value c.deref-2.ensures.value)

pub returns-in-Err-clause-sound : goal.returns-in-Err-clause-sound
returns-in-Err-clause-sound c =
    let v = c.args.net.now in
    let x = c.deref.result.now in
    let r = c.deref-2.result.now in
    let e = c.args.mismatch.now in
    let s = c.args.inverse.now in
    let told = subst (λ t. Tells (first_broken v x r e s) t (λ boxes. boxes.items ≡ boxes_of v x)) c.in-Err.is c.in_ok-_boxes.ensures in
    says_sound v c.args.ball.now.centre.items c.args.ball.now.radius.items e s (Some c.in-Err.broken) (sym told
    ∙ broken_same v x c.args.ball.now.centre.items r c.args.ball.now.radius.items e s c.deref.ensures.value c.deref-2.ensures.value)
