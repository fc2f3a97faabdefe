use Rattle.std.proofs.Common.{arith, not, ◌≡◌, ◌<◌, ◌≤◌, List, Some, None, length, subst, sym, ap}
use Rattle.std.specs.Prelude.{◌==◌}
use Rattle.fd_queue.specs.declared.entry.Entry.{Entry}
use Rattle.fd_queue.specs.Queue.{QueueView, IsQueue, entry_of, without}
use Rattle.fd_queue.proofs.EntryPlaces.{at_place, removed, stays, found, not_found}
use Rattle.fd_queue.proofs.Queues.{queue_filter}
use Rattle.fd_queue.proofs.queue.Queue.cancel.Goals as goal

pub invariant_of-self : goal.invariant_of-self
invariant_of-self c =
    let es = c.self.inside.entries.items in
    let items = ap length c.deref.ensures.value in
    let less : c.place_of-place.result < length es =
    omega (arith, c.if-place-len.true, c.len.ensures, c.deref.ensures.len, items) in
    let is : c.remove.new.self.items ≡ without c.args.control es =
    removed c.args.control es c.remove.new.self.items c.deref.result.now c.place_of-place.result c.self.inside.next
    c.self.invariant c.remove.ensures.items
    c.place_of-place.ensures c.deref.ensures.value less in
    subst (λ (xs : List Entry). IsQueue c.self.inside.next xs) (sym is)
    (queue_filter c.self.inside.next (λ e. not (e.control == c.args.control)) es c.self.invariant)

pub returns-then-place-len-clause-queue : goal.returns-then-place-len-clause-queue
returns-then-place-len-clause-queue c = invariant_of-self c

pub returns-then-place-len-clause-entry : goal.returns-then-place-len-clause-entry
returns-then-place-len-clause-entry c =
    let es = c.self.inside.entries.items in
    let place = at_place (λ e. e.control == c.args.control)
    es c.deref.result.now c.place_of-place.result c.place_of-place.ensures c.deref.ensures.value in
    let items = ap length c.deref.ensures.value in
    let less : c.place_of-place.result < length es =
    omega (arith, c.if-place-len.true, c.len.ensures, c.deref.ensures.len, items) in
    subst (λ (k : QueueView). Some c.remove.result ≡ entry_of c.args.control k.entries) c.self.view_is
    (found c.args.control es c.place_of-place.result c.remove.result place less c.remove.ensures.value)

pub returns-then-place-len-clause-entries : goal.returns-then-place-len-clause-entries
returns-then-place-len-clause-entries c =
    let es = c.self.inside.entries.items in
    let items = ap length c.deref.ensures.value in
    let less : c.place_of-place.result < length es =
    omega (arith, c.if-place-len.true, c.len.ensures, c.deref.ensures.len, items) in
    subst (λ (k : QueueView). c.remove.new.self.items ≡ without c.args.control k.entries) c.self.view_is
    (removed c.args.control es c.remove.new.self.items c.deref.result.now c.place_of-place.result c.self.inside.next
    c.self.invariant c.remove.ensures.items
    c.place_of-place.ensures c.deref.ensures.value less)

pub returns-else-place-len-clause-entry : goal.returns-else-place-len-clause-entry
returns-else-place-len-clause-entry c =
    let es = c.self.inside.entries.items in
    let place = at_place (λ e. e.control == c.args.control)
    es c.deref.result.now c.place_of-place.result c.place_of-place.ensures c.deref.ensures.value in
    let items = ap length c.deref.ensures.value in
    let more : length es ≤ c.place_of-place.result =
    omega (arith, c.if-place-len.false, c.len.ensures, c.deref.ensures.len, items) in
    subst (λ (k : QueueView). None ≡ entry_of c.args.control k.entries) c.self.view_is
    (not_found c.args.control es c.place_of-place.result place more)

pub returns-else-place-len-clause-entries : goal.returns-else-place-len-clause-entries
returns-else-place-len-clause-entries c =
    let es = c.self.inside.entries.items in
    let items = ap length c.deref.ensures.value in
    let more : length es ≤ c.place_of-place.result =
    omega (arith, c.if-place-len.false, c.len.ensures, c.deref.ensures.len, items) in
    subst (λ (k : QueueView). k.entries ≡ without c.args.control k.entries) c.self.view_is
    (stays c.args.control es c.deref.result.now c.place_of-place.result
    c.place_of-place.ensures c.deref.ensures.value more)
