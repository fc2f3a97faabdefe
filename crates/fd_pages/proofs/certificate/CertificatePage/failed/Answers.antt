use Rattle.std.proofs.Common.{◌≡◌, ◌∙◌, ℕ, [], length, Option, Some, ap, refl, subst, sym}
use Rattle.std.proofs.lemmas.List.{length-map}
use Rattle.std.proofs.lemmas.Result.{IfOk-weaker}
use Rattle.fd_outcome.specs.fd_cert.Claims.{claim_in}
use Rattle.fd_outcome.specs.fd_cert.declared.ball.Certified.{Certified}
use Rattle.fd_outcome.specs.fd_report.declared.faults.Fault.{Fault}
use Rattle.fd_outcome.specs.fd_sample.Probes.{positions_in}
use Rattle.fd_outcome.specs.Certificates.{block_in, block_texts}
use Rattle.fd_outcome.specs.Settles.{Settle, round_of}
use Rattle.fd_pages.specs.Hours.{IsSettleAt, round_in, settle_made, end_with}
use Rattle.fd_pages.specs.Rounds.{block_behind}
use Rattle.fd_pages.proofs.certificate.CertificatePage.failed.Goals as goal

behind_is : (s : Settle) (n : ℕ) (f : Fault) (last : Option Certified) (tried : Certified) → last ≡ Some tried
    → n ≡ length s.rounds
    → block_texts (block_in s n (round_of (claim_in tried) [])) ≡ block_behind s (end_with f last)
behind_is s n f last tried is count =
    subst (λ (o : Option Certified).
    block_texts (block_in s n (round_of (claim_in tried) [])) ≡ block_behind s (end_with f o)) (sym is)
    (ap (λ (k : ℕ). block_texts (block_in s k (round_of (claim_in tried) []))) count)

pub returns-in-Some : goal.returns-in-Some
returns-in-Some c l f number =
    let made = c.args.made.now in
    let s = settle_made made.circuit.now made.hour l made.rounds.now (end_with f c.args.tried)
    (positions_in c.args._at.now) in
    let at : IsSettleAt made.circuit.now made.number made.hour s =
    record { circuit_is = refl; number_is = sym number; hour_is = refl } in
    let same = behind_is s (length made.rounds.now) f c.args.tried c.in-Some.tried c.in-Some.is
    (sym (length-map made.rounds.now round_in)) in
    IfOk-weaker c.last_block.result _ _ (λ r block. block ∙ same) (c.last_block.ensures s at)
