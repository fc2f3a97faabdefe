use Rattle.fd_timeq.proofs.Lasting.{lasting}
use Rattle.fd_timeq.proofs.laws.lasts_law.Goals as goal

pub returns : goal.returns
returns c = lasting c.kept_law.ensures
