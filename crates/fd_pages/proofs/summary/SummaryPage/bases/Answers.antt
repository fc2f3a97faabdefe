use Rattle.std.proofs.Common.{◌∙◌, ap}
use Rattle.fd_bases.specs.Bases.{bases_of}
use Rattle.fd_outcome.specs.fd_outside.Emitted.{pieces_of}
use Rattle.fd_pages.proofs.Blocks.{no_base_texts}
use Rattle.fd_pages.proofs.summary.SummaryPage.bases.Goals as goal

pub returns : goal.returns
returns c = ap pieces_of c.new.ensures.items ∙ no_base_texts (bases_of c.args._circuit.now)
