use Rattle.fd_queue.proofs.Proper.{proper_both}
use Rattle.fd_queue.proofs.laws.proper_law.Goals as goal

pub returns : goal.returns
returns c = proper_both
