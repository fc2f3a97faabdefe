use Rattle.std.proofs.Common.{◌≡◌, ◌≤◌}
use Rattle.fd_regctl.specs.Regulator.{greatest_within}
use Rattle.fd_sample.specs.Regulators.{fits_down}
use Rattle.fd_sample.proofs.regulator.steps_down.Given as goal

abbrev pub invariant-loop-n : goal.invariant-loop-n
invariant-loop-n l = record {
  few : l.n ≤ l.probe.maxtapchange;
  same : greatest_within (fits_down l.probe l.square) l.probe.maxtapchange ≡ greatest_within (fits_down l.probe l.square) l.n;
}

abbrev pub decreases-loop-n : goal.decreases-loop-n
decreases-loop-n l = l.n
