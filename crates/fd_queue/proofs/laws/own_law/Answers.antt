use Rattle.fd_queue.proofs.Samplings.{own_entries}
use Rattle.fd_queue.proofs.laws.own_law.Goals as goal

pub returns : goal.returns
returns c = own_entries
