use Rattle.fd_enclosure.proofs.Certificates.{certificate_sound}
use Rattle.fd_enclosure.proofs.laws.certificate_law.Goals as goal

pub returns : goal.returns
returns c = certificate_sound
