use Rattle.fd_queue.proofs.Quantities.{values_in_order}
use Rattle.fd_queue.proofs.laws.value_law.Goals as goal

pub returns : goal.returns
returns c = values_in_order
