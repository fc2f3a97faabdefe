use Rattle.std.proofs.Common.{◌≡◌, ◌*◌, ◌≤◌, ◌^◌}
use Rattle.fd_cert.specs.Totals.{short_total, sizes_total}
use Rattle.fd_cert.proofs.bounds.short_row_total.Given as goal

abbrev pub invariant-loop-place : goal.invariant-loop-place
invariant-loop-place l = record {
  sum : l.total ≡ short_total l.place l.shorts l.numbers;
  small : l.total ≤ l.place * 2 ^ 104;
  sizes : l.sizes ≡ sizes_total l.place l.factors l.lows;
  below : l.sizes ≤ l.place * 2 ^ 116;
}
