use Rattle.fd_settle.proofs.Ended.{ended}
use Rattle.fd_settle.proofs.laws.end_law.Goals as goal

pub returns : goal.returns
returns g c = ended
