use Rattle.fd_slope.proofs.Terminals.{rows_follow}
use Rattle.fd_slope.proofs.laws.change_law.Goals as goal

pub returns : goal.returns
returns c = rows_follow
