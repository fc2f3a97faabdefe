use Rattle.fd_queue.proofs.Counts.{step_quiet}
use Rattle.fd_queue.proofs.laws.quiet_law.Goals as goal

pub returns : goal.returns
returns c = step_quiet
