use Rattle.fd_pages.proofs.Blocks.{blocks_parts}
use Rattle.fd_pages.proofs.certificate.CertificatePage.law.Goals as goal

pub returns-clause-parts : goal.returns-clause-parts
returns-clause-parts c s = blocks_parts s s.end
