use Rattle.std.proofs.Common.{◌≡◌, ◌+◌, ◌*◌, ◌≤◌, ◌++◌, length, vec_capacity}
use Rattle.fd_system.specs.Series.{drop_list}
use Rattle.fd_source.specs.Equations.{reactance_of, resistance_of}
use Rattle.fd_source.proofs.terms.add_drops.Given as goal

abbrev pub invariant-loop-m : goal.invariant-loop-m
invariant-loop-m l = record {
  items : l.terms.items ≡ l.fn.terms.items ++ drop_list (resistance_of l.source) (reactance_of l.source) l.branch l.m l.k;
  capacity : vec_capacity l.terms ≡ vec_capacity l.fn.terms;
  few : length l.terms.items ≤ length l.fn.terms.items + 4 * l.m;
}
