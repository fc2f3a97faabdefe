use Rattle.fd_enclosure.proofs.Enclosing.{sound_encloses}
use Rattle.fd_enclosure.proofs.laws.enclosure_law.Goals as goal

pub returns : goal.returns
returns c = sound_encloses c.enclosure_law.ensures c.change_law.ensures
