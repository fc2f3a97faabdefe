use Rattle.std.proofs.Common.{List, not, subst, sym}
use Rattle.std.specs.Prelude.{◌==◌}
use Rattle.fd_queue.specs.declared.entry.Entry.{Entry}
use Rattle.fd_queue.specs.Queue.{IsQueue}
use Rattle.fd_queue.proofs.Queues.{queue_filter}
use Rattle.fd_queue.proofs.queue.Queue.take_nearest.Goals as goal

pub invariant_of-self : goal.invariant_of-self
invariant_of-self c = subst (λ (es : List Entry). IsQueue c.self.inside.next es) (sym c.keep_others.ensures.items)
    (queue_filter c.self.inside.next (λ e. not (e.time == c.in-Some.first.now.time))
    c.self.inside.entries.items c.self.invariant)

pub returns-in-Some-clause-queue : goal.returns-in-Some-clause-queue
returns-in-Some-clause-queue c = invariant_of-self c
