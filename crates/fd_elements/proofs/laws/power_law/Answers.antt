use Rattle.fd_elements.proofs.Answers.{same_power}
use Rattle.fd_elements.proofs.laws.power_law.Goals as goal

pub returns : goal.returns
returns c = same_power
