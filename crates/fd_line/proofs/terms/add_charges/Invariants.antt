use Rattle.std.proofs.Common.{◌≡◌, ◌+◌, ◌*◌, ◌≤◌, ◌++◌, length, vec_capacity}
use Rattle.fd_system.specs.Contributions.{concat_below}
use Rattle.fd_line.specs.Line.{charge_at}
use Rattle.fd_line.proofs.terms.add_charges.Given as goal

abbrev pub invariant-loop-m : goal.invariant-loop-m
invariant-loop-m l = record {
  items : l.terms.items ≡ l.fn.terms.items ++ concat_below (charge_at l.line l.nodes l.k) l.m;
  capacity : vec_capacity l.terms ≡ vec_capacity l.fn.terms;
  few : length l.terms.items ≤ length l.fn.terms.items + 2 * l.m;
}
