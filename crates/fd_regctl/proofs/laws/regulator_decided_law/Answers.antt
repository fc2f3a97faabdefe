use Rattle.fd_regctl.proofs.CallerLemmas.{regulator_decided}
use Rattle.fd_regctl.proofs.laws.regulator_decided_law.Goals as goal

pub returns : goal.returns
returns c = regulator_decided
