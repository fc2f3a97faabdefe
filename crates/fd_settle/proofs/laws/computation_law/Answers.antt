use Rattle.fd_settle.proofs.Computations.{one_computation}
use Rattle.fd_settle.proofs.laws.computation_law.Goals as goal

pub returns : goal.returns
returns c = one_computation c.count_law.ensures
