use Rattle.std.proofs.Common.{◌≡◌, ◌≤◌, ◌^◌}
use Rattle.fd_cert.specs.Totals.{weighted_total}
use Rattle.fd_cert.proofs.bounds.sizes_by_weight.Given as goal

abbrev pub invariant-loop-col : goal.invariant-loop-col
invariant-loop-col l = record {
  sum : l.total ≡ weighted_total l.col l.weights l.numbers;
  small : l.total ≤ 2 ^ 120;
}
