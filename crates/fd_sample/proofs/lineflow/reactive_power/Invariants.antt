use Rattle.std.proofs.Common.{◌≡◌}
use Rattle.fd_sample.specs.Banks.{reactive_total}
use Rattle.fd_sample.proofs.lineflow.reactive_power.Given as goal

abbrev pub invariant-loop-k : goal.invariant-loop-k
invariant-loop-k l = l.total ≡ reactive_total l.end l.centre l.radii l.k
