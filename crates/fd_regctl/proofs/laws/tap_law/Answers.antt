use Rattle.fd_regctl.proofs.Taps.{stays_within}
use Rattle.fd_regctl.proofs.laws.tap_law.Goals as goal

pub returns : goal.returns
returns c = stays_within
