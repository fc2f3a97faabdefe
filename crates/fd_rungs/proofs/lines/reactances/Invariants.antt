use Rattle.std.proofs.Common.{◌≡◌, ◌^◌, length}
use Rattle.fd_line.specs.Totals.{reactance_of}
use Rattle.fd_rungs.specs.Elements.{row_of}
use Rattle.fd_rungs.specs.Numbers.{SizedBy}
use Rattle.fd_rungs.proofs.lines.reactances.Given as goal

abbrev pub invariant-loop-m : goal.invariant-loop-m
invariant-loop-m l = record {
  value : l.row.items ≡ row_of (reactance_of l.line l.k) l.m;
  count : length l.row.items ≡ l.m;
  small : SizedBy (2 ^ 100) l.row.items;
}
