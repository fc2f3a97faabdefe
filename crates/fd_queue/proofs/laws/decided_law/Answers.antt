use Rattle.fd_queue.proofs.Decisions.{decided_of_all}
use Rattle.fd_queue.proofs.laws.decided_law.Goals as goal

pub returns : goal.returns
returns c = decided_of_all
