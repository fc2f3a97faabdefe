use Rattle.fd_network.proofs.InRange.{is_of_circuit}
use Rattle.fd_network.proofs.laws.network_law.Goals as goal

pub returns : goal.returns
returns c = is_of_circuit c.device_law.ensures
