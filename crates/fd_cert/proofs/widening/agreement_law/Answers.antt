use Rattle.fd_cert.proofs.Wider.{agrees}
use Rattle.fd_cert.proofs.widening.agreement_law.Goals as goal

pub returns : goal.returns
returns c = agrees c.enclosure_law.ensures
