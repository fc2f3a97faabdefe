use Rattle.fd_load.proofs.Drawn.{current_is}
use Rattle.fd_load.proofs.laws.current_law.Goals as goal

pub returns : goal.returns
returns c = current_is
