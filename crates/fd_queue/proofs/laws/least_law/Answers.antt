use Rattle.fd_queue.proofs.Queues.{none_before}
use Rattle.fd_queue.proofs.laws.least_law.Goals as goal

pub returns : goal.returns
returns c = none_before
