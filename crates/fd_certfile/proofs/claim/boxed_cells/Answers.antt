use Rattle.std.proofs.Common.{◌∙◌, ℕ, List, ℤ, ap, sym, subst}
use Rattle.std.proofs.lemmas.Result.{IfOk-weaker}
use Rattle.fd_settle.specs.fd_mat.Rows.{square}
use Rattle.fd_settle.specs.fd_cert.Rechecks.{IsBoxed, boxed_claim}
use Rattle.fd_certfile.proofs.NearClaims.{boxed_same}
use Rattle.fd_certfile.proofs.claim.boxed_cells.Goals as goal

pub from_cells-inverse-requires : goal.from_cells-inverse-requires
from_cells-inverse-requires c = c.into_shorts.ensures.long ∙ c.requires.long

pub returns-clause-first : goal.returns-clause-first
returns-clause-first c =
    let v = c.args.net.now in
    let x = c.args.ball.centre.items in
    let r = c.args.ball.radius.items in
    let e = c.args.mismatch.items in
    let shorts = c.into_shorts.result.items in
    IfOk-weaker c.boxed.result _ _ (λ t h.
    subst (λ (n : ℕ). IsBoxed v (boxed_claim v x r e (square n c.args.cells)) t) (sym c.requires.size)
    (boxed_same v x r e c.args.cells shorts c.into_shorts.ensures t
    (subst (λ (m : List (List ℤ)). IsBoxed v (boxed_claim v x r e m) t)
    (c.from_cells-inverse.ensures ∙ ap (λ (n : ℕ). square n shorts) c.requires.size) h))) c.boxed.ensures.first
