use Rattle.std.proofs.Common.{◌==◌, length, map, ap, arith, refl, sym, ◌∙◌}
use Rattle.std.proofs.lemmas.List.{with_items_is}
use Rattle.fd_sample.specs.fd_queue.Queue.{least_time, nearest}
use Rattle.fd_sample.specs.fd_queue.declared.entry.Entry.{Entry}
use Rattle.fd_sample.specs.Probes.{positions_in}
use Rattle.fd_sample.specs.fd_devices.declared.settings.Positions.{Positions as CodePositions}
use Rattle.fd_settle.specs.Rounds.{seen}
use Rattle.fd_settle.specs.declared.clock.Clock.{Clock}
use Rattle.std.specs.Vec.{with_items}
use Rattle.fd_settle.specs.Acting.{ActsLeadTo}
use Rattle.fd_settle.specs.Controls.{machine_of, probe_in}
use Rattle.fd_settle.proofs.Lists.{filter_few}
use Rattle.fd_settle.proofs.Shown.{act_from, all_acted_shows, due_acts, due_controls, due_early, due_each, stands_from}
use Rattle.fd_settle.proofs.controls.Controls.act.Goals as goal

pub act_all-requires-clause-one_each : goal.act_all-requires-clause-one_each
act_all-requires-clause-one_each c = due_each _ _ _ (c.deref.ensures.value ∙ c.take_nearest.ensures.taken) c.requires.controls.queue.queue

pub act_all-requires-clause-controls : goal.act_all-requires-clause-controls
act_all-requires-clause-controls c =
    due_controls _ _ _ _ (c.deref.ensures.value ∙ c.take_nearest.ensures.taken) c.deref_mut.ensures.value c.requires.controls.queue.controls

pub act_all-requires-clause-can_act : goal.act_all-requires-clause-can_act
act_all-requires-clause-can_act c =
    due_acts _ _ _ _ _ _ (c.deref.ensures.value ∙ c.take_nearest.ensures.taken) c.deref_mut.ensures.value
    (c.deref_mut-2.ensures.value ∙ c.into_vec-taps.ensures ∙ c.replace.ensures.value) c.requires.controls.can_act

pub act_all-requires-clause-openings : goal.act_all-requires-clause-openings
act_all-requires-clause-openings c = due_early _ _ (c.deref.ensures.value ∙ c.take_nearest.ensures.taken) c.requires.controls.openings

pub act_all-requires-clause-room : goal.act_all-requires-clause-room
act_all-requires-clause-room c =
    let due = c.deref.ensures.value ∙ c.take_nearest.ensures.taken in
    omega (arith, ap length due, filter_few (λ (e : Entry). e.time == least_time c.args.self.now.queue.entries) c.args.self.now.queue.entries, c.requires.room)

pub returns : goal.returns
returns c =
    let q = c.args.self.now.queue in
    let ss = c.args.self.now.states.items in
    let e_due = c.deref.ensures.value ∙ c.take_nearest.ensures.taken in
    let e_ss = c.deref_mut.ensures.value in
    let e_taps = c.deref_mut-2.ensures.value ∙ c.into_vec-taps.ensures ∙ c.replace.ensures.value in
    let e_closed = c.deref_mut-3.ensures.value ∙ c.into_vec-closed.ensures ∙ c.replace-2.ensures.value in
    let e_opened = c.deref_mut-4.ensures.value in
    let clock : Clock = record { now = c.args.clock.now.now; opened = with_items c.args.clock.now.opened c.act_all.new.opened } in
    let at : CodePositions = record { taps = c.new-5.result; closed = c.new-6.result } in
    let new = with_items_is c.args.self.now.states c.act_all.new.states (c.act_all.ensures.each_state ∙ c.deref_mut.ensures.len) in
    let taps = c.new-5.ensures ∙ with_items_is c.into_vec-taps.result c.act_all.new.taps (c.act_all.ensures.each_tap ∙ c.deref_mut-2.ensures.len) in
    let closed = c.new-6.ensures ∙ with_items_is c.into_vec-closed.result c.act_all.new.closed (c.act_all.ensures.each_closed ∙ c.deref_mut-3.ensures.len) in
    let opened = with_items_is c.args.clock.now.opened c.act_all.new.opened (c.act_all.ensures.each_opened ∙ c.deref_mut-4.ensures.len) in
    let acts : ActsLeadTo c.args.self.now.timing c.args.clock.now.now (nearest q.entries) ss c.args.at.now.taps c.args.at.now.closed c.args.clock.now.opened.items
    (with_items c.args.self.now.states c.act_all.new.states).items c.new-5.result c.new-6.result
    (with_items c.args.clock.now.opened c.act_all.new.opened).items (map seen c.act_all.new.acts.items) =
    act_from c.args.self.now.timing c.args.clock.now.now (nearest q.entries) c.deref.result.now ss c.deref_mut.result.now c.args.at.now.taps
    c.deref_mut-2.result.now c.args.at.now.closed c.deref_mut-3.result.now c.args.clock.now.opened.items
    c.deref_mut-4.result.now (with_items c.args.self.now.states c.act_all.new.states).items c.act_all.new.states
    c.new-5.result c.act_all.new.taps c.new-6.result c.act_all.new.closed
    (with_items c.args.clock.now.opened c.act_all.new.opened).items c.act_all.new.opened
    (map seen c.act_all.new.acts.items) e_due e_ss e_taps e_closed e_opened (sym new) (sym taps) (sym closed)
    (sym opened) c.act_all.ensures.acts in
    record {
      machine = λ limit. all_acted_shows c.args.self.now.timing limit (positions_in c.args.at.now) (positions_in at) c.args.self.now.made c.args.clock.now clock ss
          (with_items c.args.self.now.states c.act_all.new.states).items q c.take_nearest.new.self (map seen c.act_all.new.acts.items) acts
          c.take_nearest.ensures.entries c.take_nearest.ensures.next refl;
      made_acts = λ limit. acts.acts limit (machine_of c.args.at.now c.args.clock.now c.args.self.now);
      standing = stands_from _ _ _ _ _ _ _ _ (sym taps) (sym closed) (sym opened) (sym new) c.act_all.ensures.standing;
      probes = ap (map probe_in) new ∙ c.act_all.ensures.probes ∙ ap (map probe_in) e_ss;
      each_tap = ap length taps ∙ c.act_all.ensures.each_tap ∙ ap length e_taps;
      each_closed = ap length closed ∙ c.act_all.ensures.each_closed ∙ ap length e_closed;
      entries = c.take_nearest.ensures.entries;
      next = c.take_nearest.ensures.next;
      room = c.take_nearest.ensures.room;
      due_room = c.take_nearest.ensures.capacity;
      verdicts = refl;
      made = refl;
      limit = refl;
      timing = refl;
      now = refl;
    }
