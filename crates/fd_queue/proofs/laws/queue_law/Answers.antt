use Rattle.fd_queue.proofs.Steps.{step_keeps}
use Rattle.fd_queue.proofs.laws.queue_law.Goals as goal

pub returns : goal.returns
returns c = step_keeps
