use Rattle.fd_bounds.proofs.InOrder.{factors_in_order}
use Rattle.fd_bounds.proofs.laws.in_order_law.Goals as goal

pub returns : goal.returns
returns c = factors_in_order
