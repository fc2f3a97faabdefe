use Rattle.fd_system.proofs.LoadRows.{loads_represent}
use Rattle.fd_system.proofs.laws.load_law.Goals as goal

pub returns : goal.returns
returns c = loads_represent
