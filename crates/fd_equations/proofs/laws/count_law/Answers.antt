use Rattle.fd_equations.specs.WalkLaws.{count_sums}
use Rattle.fd_equations.proofs.laws.count_law.Goals as goal

pub returns : goal.returns
returns c = count_sums
