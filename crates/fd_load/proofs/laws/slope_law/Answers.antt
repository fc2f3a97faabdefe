use Rattle.fd_load.proofs.Away.{slopes_near}
use Rattle.fd_load.proofs.laws.slope_law.Goals as goal

pub returns : goal.returns
returns c = slopes_near
