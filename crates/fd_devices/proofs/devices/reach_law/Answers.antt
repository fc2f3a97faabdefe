use Rattle.fd_devices.proofs.Reach.{reach}
use Rattle.fd_devices.proofs.devices.reach_law.Goals as goal

pub returns : goal.returns
returns c = reach
