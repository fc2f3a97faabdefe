use Rattle.std.proofs.Common.{◌∙◌, length, ap}
use Rattle.std.proofs.lemmas.Result.{IfOk-weaker}
use Rattle.fd_cert.proofs.Certificates.{length-mismatches, sizes_are}
use Rattle.fd_cert.proofs.mismatches.mismatches.Goals as goal

pub returns-clause-mismatches : goal.returns-clause-mismatches
returns-clause-mismatches c =
    IfOk-weaker c.sizes.result _ _ (λ m h.
    sizes_are c.args.net.now c.args.x.now m.items c.deref.result.now
    (c.deref.ensures.value ∙ c.in_ok-residual.ensures.rows) h)
    c.sizes.ensures

pub returns-clause-long : goal.returns-clause-long
returns-clause-long c =
    IfOk-weaker c.sizes.result _ _ (λ m h. ap length (sizes_are c.args.net.now c.args.x.now m.items c.deref.result.now
    (c.deref.ensures.value ∙ c.in_ok-residual.ensures.rows) h)
    ∙ length-mismatches c.args.net.now c.args.x.now)
    c.sizes.ensures
