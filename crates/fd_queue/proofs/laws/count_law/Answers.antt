use Rattle.fd_queue.proofs.Counts.{step_counts}
use Rattle.fd_queue.proofs.laws.count_law.Goals as goal

pub returns : goal.returns
returns c = step_counts
