use Rattle.fd_capctl.proofs.Aways.{moves_away}
use Rattle.fd_capctl.proofs.laws.away_law.Goals as goal

pub returns : goal.returns
returns c = moves_away
