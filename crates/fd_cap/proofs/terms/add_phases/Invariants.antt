use Rattle.std.proofs.Common.{◌≡◌, ◌*◌, ◌≤◌, length, vec_capacity}
use Rattle.fd_system.specs.Contributions.{concat_below}
use Rattle.fd_cap.specs.Capacitor.{list_at}
use Rattle.fd_cap.proofs.terms.add_phases.Given as goal

abbrev pub invariant-loop-k : goal.invariant-loop-k
invariant-loop-k l = record {
  items : l.terms.items ≡ concat_below (list_at l.cap l.at) l.k;
  capacity : vec_capacity l.terms ≡ vec_capacity l.fn.terms;
  few : length l.terms.items ≤ 16 * l.k;
}
