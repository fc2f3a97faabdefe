use Rattle.fd_load.proofs.Drawn.{magnitude_is}
use Rattle.fd_load.proofs.laws.magnitude_law.Goals as goal

pub returns : goal.returns
returns c = magnitude_is
