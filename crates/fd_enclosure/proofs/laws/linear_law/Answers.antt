use Rattle.fd_enclosure.proofs.Enclosing.{sound_encloses_all}
use Rattle.fd_enclosure.proofs.laws.linear_law.Goals as goal

pub returns : goal.returns
returns c = sound_encloses_all c.enclosure_law.ensures
