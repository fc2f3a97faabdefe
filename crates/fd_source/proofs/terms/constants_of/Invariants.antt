use Rattle.std.proofs.Common.{◌≡◌}
use Rattle.fd_system.specs.Contributions.{concat_below}
use Rattle.fd_source.specs.Equations.{phase_constants}
use Rattle.fd_source.proofs.terms.constants_of.Given as goal

abbrev pub invariant-loop-k : goal.invariant-loop-k
invariant-loop-k l = l.constants.items ≡ concat_below (phase_constants l.source) l.k
