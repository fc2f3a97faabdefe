use Rattle.fd_cert.proofs.Wider.{widens}
use Rattle.fd_cert.proofs.widening.widening_law.Goals as goal

pub returns : goal.returns
returns c = widens
