use Rattle.std.proofs.Common.{◌≡◌, ◌∙◌, ℕ, ◌+◌, None, Ok, Err, map, refl, ap, sym, subst}
use Rattle.fd_settle.specs.fd_mat.Rows.{square}
use Rattle.fd_settle.specs.fd_cert.Claims.{claim_in}
use Rattle.fd_settle.specs.fd_cert.Rechecks.{IsBoxed, boxed_claim, first_unsound}
use Rattle.fd_certfile.specs.Claiming.{centre_in, claim_read, mismatch_in, radius_in}
use Rattle.fd_certfile.specs.Reader.{ReaderView, next_of}
use Rattle.fd_certfile.specs.Views.{part}
use Rattle.fd_certfile.proofs.NextBlock.{ahead_long, ahead_square}
use Rattle.fd_certfile.proofs.Solving.{gives_refused, read_is, solved_broken, solved_claim, solved_ok}
use Rattle.fd_certfile.proofs.reader.CertReaderSolver.solve.Goals as goal

pub returns-in-Err-clause-gives : goal.returns-in-Err-clause-gives
returns-in-Err-clause-gives c = gives_refused c.args.net.now c.args.self.now c.size-size.result c.in-Err.fault c.size-size.ensures.size c.in-Err.ensures

pub claimed-requires-clause-long : goal.claimed-requires-clause-long
claimed-requires-clause-long c = ahead_long c.args.self.now c.size-size.result c.in-Ok.ahead c.in-Ok.ensures

pub returns-in-Ok-2-clause-gives : goal.returns-in-Ok-2-clause-gives
returns-in-Ok-2-clause-gives c =
    let v = c.args.net.now in
    let r = c.args.self.now in
    let n = c.size-size.result in
    let x = c.in-Ok.ahead in
    let h = c.in-Ok.ensures in
    let parts = c.deref.result.now in
    let next : next_of r v.size ≡ Ok (h.block, c.pass.new.self) =
    ap (next_of r) (sym c.size-size.ensures.size) ∙ h.next ∙ ap (λ (w : ReaderView). Ok (h.block, w)) (c.in_ok-pass-in-Ok-2.ensures h.block _ h.next) in
    let read = read_is v parts (square n x.cells) h.block (ap (map part) c.deref.ensures.value ∙ h.parts) (ahead_square r n x h) in
    let told = subst (IsBoxed v
    (boxed_claim v (map centre_in parts) (map radius_in parts) (map mismatch_in parts) (square n x.cells)))
    c.in-Ok-2.is c.in_ok-certified.ensures.first in
    let whole : first_unsound v (claim_read v h.block) ≡ None = sym (ap (first_unsound v) read) ∙ told.0 in
    record {
      block = h.block;
      solved = solved_ok v r h.block c.pass.new.self next whole;
      claim = ap claim_in c.in_ok-state-in-Ok-2.ensures ∙ told.1 ∙ read ∙ solved_claim v r h.block c.pass.new.self next whole;
    }

pub returns-clause-gives : goal.returns-clause-gives
returns-clause-gives c =
    let v = c.args.net.now in
    let r = c.args.self.now in
    let n = c.size-size.result in
    let x = c.in-Ok.ahead in
    let h = c.in-Ok.ensures in
    let parts = c.deref.result.now in
    let next = ap (next_of r) (sym c.size-size.ensures.size) ∙ h.next in
    let read = read_is v parts (square n x.cells) h.block (ap (map part) c.deref.ensures.value ∙ h.parts) (ahead_square r n x h) in
    let told = subst (IsBoxed v (boxed_claim v (map centre_in parts) (map radius_in parts) (map mismatch_in parts)
    (square n x.cells))) c.in-Err-2.is c.in_ok-certified.ensures.first in (
      solved_broken v r h.block _ next c.in-Err-2.broken (sym (ap (first_unsound v) read) ∙ told)
          ∙ ap (λ (k : ℕ). Err (k + 1 + c.in-Err-2.broken.place, c.in-Err-2.broken.rule)) (sym (ap (λ (q : ReaderView). q.line) c.self.view_is))
          ∙ ap (λ (k : ℕ). Err (c.self.inside.line + 1 + k, c.in-Err-2.broken.rule)) (sym c.from.ensures),
      refl,
    )
