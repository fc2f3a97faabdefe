use Rattle.fd_checking.proofs.Checked.{checked}
use Rattle.fd_checking.proofs.laws.checked_law.Goals as goal

pub returns : goal.returns
returns c = checked c.accepted_law.ensures
