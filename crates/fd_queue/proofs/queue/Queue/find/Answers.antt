use Rattle.std.proofs.Common.{arith, ◌≡◌, ◌<◌, ◌≤◌, Some, None, length, subst, ap}
use Rattle.std.specs.Prelude.{◌==◌}
use Rattle.fd_queue.specs.Queue.{QueueView, entry_of}
use Rattle.fd_queue.proofs.EntryPlaces.{at_place, found, not_found}
use Rattle.fd_queue.proofs.queue.Queue.find.Goals as goal

pub returns-then-place-len-clause-entry : goal.returns-then-place-len-clause-entry
returns-then-place-len-clause-entry c =
    let es = c.self.inside.entries.items in
    let place = at_place (λ e. e.control == c.args.control)
    es c.deref.result.now c.place_of-place.result c.place_of-place.ensures c.deref.ensures.value in
    let items = ap length c.deref.ensures.value in
    let less : c.place_of-place.result < length es =
    omega (arith, c.if-place-len.true, c.len.ensures, c.deref.ensures.len, items) in
    subst (λ (k : QueueView). Some c.index.result.now ≡ entry_of c.args.control k.entries) c.self.view_is
    (found c.args.control es c.place_of-place.result c.index.result.now place less c.index.ensures)

pub returns-else-place-len-clause-entry : goal.returns-else-place-len-clause-entry
returns-else-place-len-clause-entry c =
    let es = c.self.inside.entries.items in
    let place = at_place (λ e. e.control == c.args.control)
    es c.deref.result.now c.place_of-place.result c.place_of-place.ensures c.deref.ensures.value in
    let items = ap length c.deref.ensures.value in
    let more : length es ≤ c.place_of-place.result =
    omega (arith, c.if-place-len.false, c.len.ensures, c.deref.ensures.len, items) in
    subst (λ (k : QueueView). None ≡ entry_of c.args.control k.entries) c.self.view_is
    (not_found c.args.control es c.place_of-place.result place more)
