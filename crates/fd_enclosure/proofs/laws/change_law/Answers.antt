use Rattle.fd_enclosure.proofs.Network.{network_changes}
use Rattle.fd_enclosure.proofs.laws.change_law.Goals as goal

pub returns : goal.returns
returns c = network_changes c.change_law.ensures
