use Rattle.fd_system.proofs.Intervals.{residual_holds}
use Rattle.fd_system.proofs.laws.residual_law.Goals as goal

pub returns : goal.returns
returns c = residual_holds
