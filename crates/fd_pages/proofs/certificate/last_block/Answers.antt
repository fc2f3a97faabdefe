use Rattle.std.proofs.Common.{◌≡◌, List, length, map, subst}
use Rattle.std.specs.Prelude.{IfOk}
use Rattle.fd_outcome.specs.fd_cert.Claims.{claim_in}
use Rattle.fd_outcome.specs.fd_cert.declared.ball.Certified.{Certified}
use Rattle.fd_outcome.specs.fd_outside.Emitted.{pieces_of}
use Rattle.fd_outcome.specs.fd_settle.Rounds.{seen}
use Rattle.fd_outcome.specs.fd_settle.declared.round.Act.{Act}
use Rattle.fd_outcome.specs.Certificates.{block_in, block_texts}
use Rattle.fd_outcome.specs.Settles.{round_of}
use Rattle.fd_pages.proofs.certificate.last_block.Goals as goal

pub returns : goal.returns
returns c s at =
    subst (λ (acts : List Act).
    IfOk c.block.result (λ r. pieces_of r.items
    ≡ block_texts (block_in s (length c.args.made.now.rounds.now) (round_of (claim_in c.args.tried) (map seen acts)))))
    c.new.ensures.items
    (subst (λ (m : Certified).
    IfOk c.block.result (λ r. pieces_of r.items ≡ block_texts
    (block_in s (length c.args.made.now.rounds.now) (round_of (claim_in m) (map seen c.new.result.items)))))
    c.in_ok-shared.ensures (c.block.ensures s at))
