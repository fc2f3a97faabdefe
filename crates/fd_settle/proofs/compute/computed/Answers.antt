use Rattle.std.proofs.Common.{sym, subst}
use Rattle.std.proofs.lemmas.Result.{IfOk-weaker}
use Rattle.fd_cert.specs.Claims.{claim_in}
use Rattle.fd_cert.specs.declared.ball.Certified.{Certified}
use Rattle.fd_cert.specs.fd_enclosure.Sound.{IsSound}
use Rattle.fd_settle.proofs.Computing.{one_certificate}
use Rattle.fd_settle.proofs.Storing.{shared_gives}
use Rattle.fd_settle.proofs.compute.computed.Goals as goal

pub returns-in-Ok-certify-clause-gives : goal.returns-in-Ok-certify-clause-gives
returns-in-Ok-certify-clause-gives c =
    shared_gives c.args.limits.now c.args.net.now c.owned.result c.in-Ok-certify.certified c.owned.ensures.ok c.owned.ensures.memory
    (one_certificate c.args.limits.now c.args.net.now c.in-Ok.point.x.items c.in-Ok.point.inverse c.in-Ok.ensures.point
    (claim_in c.in-Ok-certify.certified) c.in-Ok-certify.ensures.certified)

pub returns-in-Ok-certify-clause-sound : goal.returns-in-Ok-certify-clause-sound
returns-in-Ok-certify-clause-sound c =
    IfOk-weaker c.owned.result _ _ (λ m e. subst (λ (x : Certified). IsSound c.args.net.now (claim_in x)) (sym e)
    (c.certificate_law.ensures c.args.net.now c.in-Ok.point.x.items c.in-Ok.point.inverse
    (claim_in c.in-Ok-certify.certified) c.size-size.ensures.valid c.in-Ok.ensures.parts
    (record { long = c.in-Ok.ensures.size; small = c.in-Ok.ensures.entries }) c.in-Ok-certify.ensures.certified))
    c.owned.ensures.ok
