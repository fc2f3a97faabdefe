use Rattle.std.proofs.Common.{◌≡◌, ◌≤◌, take, vec_len, vec_capacity}
use Rattle.std.specs.Prelude.{◌==◌}
use Rattle.std.specs.List.{filter}
use Rattle.fd_queue.proofs.times.copy_of_time.Given as goal

abbrev pub invariant-loop-entry : goal.invariant-loop-entry
invariant-loop-entry l = record {
  items : l.into.items ≡ filter (λ e. e.time == l.time) (take l.entry-index l.entries);
  few : vec_len l.into ≤ l.entry-index;
  capacity : vec_capacity l.fn.into ≤ vec_capacity l.into;
}
