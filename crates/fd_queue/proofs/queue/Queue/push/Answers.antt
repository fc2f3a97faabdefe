use Rattle.std.proofs.Common.{rules, refl, ◌+◌, ◌≡◌, false, List, subst, sym}
use Rattle.std.specs.Prelude.{nat_lt, insert}
use Rattle.fd_queue.specs.declared.entry.Entry.{Entry}
use Rattle.fd_queue.specs.Queue.{QueueView, IsQueue, has_entry, queued}
use Rattle.fd_queue.proofs.EntryPlaces.{pushed, in_list}
use Rattle.fd_queue.proofs.Queues.{queue_put}
use Rattle.fd_queue.proofs.queue.Queue.push.Goals as goal

pub insert-requires : goal.insert-requires
insert-requires c = in_list (λ x. nat_lt c.args.time x.time)
    c.deref.result.now c.place_after-place.result _ c.place_after-place.ensures c.deref.ensures.len

pub invariant_of-self : goal.invariant_of-self
invariant_of-self c =
    let es = c.self.inside.entries.items in
    let e : Entry = record { time = c.args.time; seq = c.self.inside.next; control = c.args.control; up = c.args.up } in
    let new : c.insert.new.self.items ≡ insert es c.place_after-place.result e = search rules in
    let is : c.insert.new.self.items ≡ queued e es =
    pushed es c.insert.new.self.items c.deref.result.now e c.place_after-place.result c.self.inside.next c.self.invariant
    new c.place_after-place.ensures c.deref.ensures.value in
    let none : has_entry c.args.control es ≡ false =
    subst (λ (k : QueueView). has_entry c.args.control k.entries ≡ false) (sym c.self.view_is) c.requires.none in
    subst (λ (xs : List Entry). IsQueue (c.self.inside.next + 1) xs) (sym is)
    (queue_put c.self.inside.next e es refl none c.self.invariant)

pub returns-clause-queue : goal.returns-clause-queue
returns-clause-queue c = invariant_of-self c

pub returns-clause-entries : goal.returns-clause-entries
returns-clause-entries c =
    let es = c.self.inside.entries.items in
    let e : Entry = record { time = c.args.time; seq = c.self.inside.next; control = c.args.control; up = c.args.up } in
    let new : c.insert.new.self.items ≡ insert es c.place_after-place.result e = search rules in
    let is : c.insert.new.self.items ≡ queued e es =
    pushed es c.insert.new.self.items c.deref.result.now e c.place_after-place.result c.self.inside.next c.self.invariant
    new c.place_after-place.ensures c.deref.ensures.value in
    subst (λ (k : QueueView). c.insert.new.self.items ≡ queued
    (record { time = c.args.time; seq = k.next; control = c.args.control; up = c.args.up }) k.entries)
    c.self.view_is is
