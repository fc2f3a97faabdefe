use Rattle.fd_queue.proofs.Numbers.{step_numbers}
use Rattle.fd_queue.proofs.laws.next_law.Goals as goal

pub returns : goal.returns
returns c = step_numbers
