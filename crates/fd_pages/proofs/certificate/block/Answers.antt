use Rattle.std.proofs.Common.{◌∙◌, ap, sym, subst}
use Rattle.std.proofs.lemmas.Result.{IfOk-weaker}
use Rattle.fd_bases.specs.dss_layout.Layout.{size_of}
use Rattle.fd_outcome.specs.fd_cert.Claims.{claim_in}
use Rattle.fd_outcome.specs.fd_certfile.Rounds.{IsClaimOf}
use Rattle.fd_outcome.specs.Certificates.{block_texts}
use Rattle.fd_pages.proofs.Blocks.{same_block}
use Rattle.fd_pages.proofs.certificate.block.Goals as goal

pub write_block-requires : goal.write_block-requires
write_block-requires c =
    let size = sym c.size-size.ensures.rows ∙ c.size-size.ensures.layout ∙ ap size_of c.requires.network.layout in
    subst (λ n. IsClaimOf n (claim_in c.args.round.now.certified.value)) (sym size) c.requires.numbers

pub returns : goal.returns
returns c s at =
    let made = c.args.made.now in
    let size = sym c.size-size.ensures.rows ∙ c.size-size.ensures.layout ∙ ap size_of c.requires.network.layout in
    let same =
    same_block made.circuit.now made.number made.hour made.net.now.rows.size c.args.place s c.args.round.now at
    size in
    IfOk-weaker c.write_block.result _ _ (λ r is. is ∙ ap block_texts same) c.write_block.ensures.lines
