use Rattle.std.proofs.Common.{◌≡◌, ◌*◌, ◌≤◌, length, vec_capacity}
use Rattle.fd_system.specs.Contributions.{concat_below}
use Rattle.fd_xfmr.specs.Transformer.{list_at}
use Rattle.fd_xfmr.proofs.terms.add_phases.Given as goal

abbrev pub invariant-loop-k : goal.invariant-loop-k
invariant-loop-k l = record {
  items : l.terms.items ≡ concat_below (list_at l.numbers l.xfmr l.at) l.k;
  capacity : vec_capacity l.terms ≡ vec_capacity l.fn.terms;
  few : length l.terms.items ≤ 20 * l.k;
}
