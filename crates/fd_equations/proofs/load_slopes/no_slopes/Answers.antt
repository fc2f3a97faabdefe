use Rattle.std.proofs.Common.{refl}
use Rattle.fd_equations.specs.PartLoads.{no_slopes}
use Rattle.fd_equations.proofs.load_slopes.no_slopes.Goals as goal

pub returns-clause-slopes : goal.returns-clause-slopes
unfolding no_slopes
returns-clause-slopes c = refl
