use Rattle.fd_cap.proofs.Capacitor.{cap_is}
use Rattle.fd_cap.proofs.laws.cap_law.Goals as goal

pub returns : goal.returns
returns c = cap_is
