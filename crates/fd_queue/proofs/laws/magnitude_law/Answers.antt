use Rattle.fd_queue.proofs.Quantities.{magnitudes_in_order}
use Rattle.fd_queue.proofs.laws.magnitude_law.Goals as goal

pub returns : goal.returns
returns c = magnitudes_in_order
