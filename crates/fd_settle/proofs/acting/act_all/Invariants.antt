use Rattle.std.proofs.Common.{◌≤◌, map, vec_capacity}
use Rattle.fd_settle.specs.Rounds.{seen}
use Rattle.fd_settle.proofs.Acts.{IsActing}
use Rattle.fd_settle.proofs.acting.act_all.Given as goal

abbrev pub invariant-loop-entry : goal.invariant-loop-entry
invariant-loop-entry l = record {
  acting : IsActing l.timing l.now l.due l.entry-index l.fn.taps l.taps l.fn.closed l.closed l.fn.opened l.opened l.fn.states l.states (map seen l.acts.items);
  capacity : vec_capacity l.fn.acts ≤ vec_capacity l.acts;
}
