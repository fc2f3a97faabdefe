use Rattle.fd_settle.proofs.Grounds.{sound_at}
use Rattle.fd_settle.proofs.kept.sound_at_law.Goals as goal

pub returns : goal.returns
returns c = sound_at c.network_law.ensures
