use Rattle.fd_regctl.proofs.Edges.{same_steps}
use Rattle.fd_regctl.proofs.laws.steps_law.Goals as goal

pub returns : goal.returns
returns c = same_steps
