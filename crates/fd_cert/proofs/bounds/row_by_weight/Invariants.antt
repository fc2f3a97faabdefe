use Rattle.std.proofs.Common.{◌≡◌, ◌*◌, ◌≤◌, ◌^◌, nat_abs, take}
use Rattle.fd_enclosure.specs.fd_exact.States.{part}
use Rattle.fd_enclosure.specs.fd_exact.Sums.{list_n}
use Rattle.fd_cert.proofs.bounds.row_by_weight.Given as goal

abbrev pub invariant-loop-cell : goal.invariant-loop-cell
invariant-loop-cell l = record {
  sum : l.total ≡ list_n (λ c. nat_abs c.units * nat_abs (part l.weights c.col)) (take l.cell-index l.cells);
  small : l.total ≤ 2 ^ 120;
}
