use Rattle.fd_regctl.proofs.Regulators.{regulator_along}
use Rattle.fd_regctl.proofs.laws.regulator_law.Goals as goal

pub returns : goal.returns
returns c = regulator_along
