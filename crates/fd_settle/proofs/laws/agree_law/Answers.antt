use Rattle.fd_settle.proofs.Histories.{agreeing}
use Rattle.fd_settle.proofs.laws.agree_law.Goals as goal

pub returns : goal.returns
returns g c = agreeing
