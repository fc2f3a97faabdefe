use Rattle.std.proofs.Common.{◌∙◌, ◌≡◌, List, ℕ, sym, subst}
use Rattle.std.proofs.lemmas.Result.{IfOk-weaker}
use Rattle.fd_solving.specs.fd_cert.Claims.{claim_in}
use Rattle.fd_solving.specs.fd_cert.Widening.{IsWidened}
use Rattle.fd_sweeping.proofs.Besides.{greater_fits, greater_is}
use Rattle.fd_sweeping.proofs.beside.widened.Goals as goal

pub widen-requires-clause-mismatches : goal.widen-requires-clause-mismatches
widen-requires-clause-mismatches c =
    greater_fits c.args.net.now (claim_in c.args.certified.now) c.requires.claim c.deref.result.now c.args.mismatch.now
    c.in_ok-greater.greater.items c.deref.ensures.value c.in_ok-greater.ensures c.requires.mismatches

pub returns-clause-widened : goal.returns-clause-widened
returns-clause-widened c x own =
    let v = c.args.net.now in
    let m = claim_in c.args.certified.now in
    let same = greater_is v m c.requires.claim c.deref.result.now c.args.mismatch.now c.in_ok-greater.greater.items
    c.deref.ensures.value c.in_ok-greater.ensures x own in
    IfOk-weaker c.widen.result _ _ (λ w h. subst (λ (e : List ℕ). IsWidened v m e w) same h) c.widen.ensures.widened
