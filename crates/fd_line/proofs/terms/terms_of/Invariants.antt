use Rattle.std.proofs.Common.{◌≡◌, ◌*◌, ◌≤◌, length, vec_capacity}
use Rattle.fd_system.specs.Contributions.{concat_below}
use Rattle.fd_line.specs.Line.{phase_list}
use Rattle.fd_line.proofs.terms.terms_of.Given as goal

abbrev pub invariant-loop-k : goal.invariant-loop-k
invariant-loop-k l = record {
  items : l.terms.items ≡ concat_below (phase_list l.line l.at) l.k;
  capacity : vec_capacity l.terms ≡ 32 * l.line.phases;
  few : length l.terms.items ≤ 32 * l.k;
}
