use Rattle.fd_equations.specs.WalkLaws.{walk_sums}
use Rattle.fd_equations.proofs.laws.walk_law.Goals as goal

pub returns : goal.returns
returns c = walk_sums
