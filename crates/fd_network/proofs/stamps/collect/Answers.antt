use Rattle.std.proofs.Common.{◌∙◌, ◌+◌, ◌*◌, ◌++◌, ◌<◌, ◌≤◌, ◌^◌, [], ◌∷◌, IfSome, drop, length, take, slice_get, Some, arith, ap, refl, sym, subst}
use Rattle.std.specs.Option.{option_map}
use Rattle.std.specs.Map.Iter.{deref_pair}
use Rattle.std.proofs.lemmas.List.{length-take, take_all}
use Rattle.std.proofs.lemmas.Result.{err_from_is_err_and}
use Rattle.dss_ready.specs.dss_layout.Layout.{complex_count, size_of}
use Rattle.dss_ready.proofs.CallerLemmas.dss_layout.{drop-more, take-more}
use Rattle.fd_devices.specs.Building.{AreCollected, device_fits}
use Rattle.fd_devices.specs.Devices.{device_stamp}
use Rattle.fd_devices.specs.fd_system.Stamps.{stamp_of}
use Rattle.fd_devices.proofs.CallerLemmas.fd_system.{room_then}
use Rattle.fd_devices.specs.Scripted.{device_of, devices_from}
use Rattle.fd_devices.specs.Settings.{own}
use Rattle.fd_devices.proofs.CallerLemmas.{collected_more, devices_length}
use Rattle.fd_devices.specs.Settings.{settings_in}
use Rattle.fd_network.proofs.Faulty.{first_at}
use Rattle.fd_network.specs.Stamps.{IsStampsRoomSame, extent_of, extents_of}
use Rattle.fd_network.specs.declared.extents.Stamps.{Stamps}
use Rattle.fd_network.specs.Former.{AreFormerFrom, formers_in}
use Rattle.fd_network.proofs.Filling.{few_next, room_left}
use Rattle.fd_network.proofs.Before.{first_there, known_here, known_next, own_there}
use Rattle.fd_network.proofs.Parting.{extents_few, extents_more}
use Rattle.fd_network.proofs.Taking.{IsAt, device_next, here_from, next_at, taken_at}
use Rattle.fd_network.proofs.Walking.{stands_at}
use Rattle.fd_network.proofs.stamps.collect.Goals as goal

room_both : (s t u : Stamps) → IsStampsRoomSame s t → IsStampsRoomSame t u → IsStampsRoomSame s u
room_both s t u h k = record { all = room_then s.all t.all u.all h.all k.all; extents = k.extents ∙ h.extents }

pub add_stamp-requires-clause-taken : goal.add_stamp-requires-clause-taken
add_stamp-requires-clause-taken c =
    let es = c.args.elements.now.entries in
    let layout = c.args.layout.now in
    let hertz = c.args.hertz in
    let place = c.loop-place.place in
    let left = settings_in c.loop-place.left in
    let e = deref_pair c.unwrap.result in
    let ds = devices_from layout hertz 0 es (settings_in c.args.settings.now) in
    let here = ap (λ es. slice_get es c.loop-place.place) (sym c.as_slice-entries.ensures.entries)
    ∙ sym c.get_index.ensures.entry
    ∙ ap (option_map deref_pair) c.unwrap.ensures in
    taken_at layout hertz es ds place left e here c.loop-place.invariant.at

pub add_stamp-requires-clause-kept : goal.add_stamp-requires-clause-kept
add_stamp-requires-clause-kept c =
    let es = c.args.elements.now.entries in
    let layout = c.args.layout.now in
    let hertz = c.args.hertz in
    let place = c.loop-place.place in
    let left = settings_in c.loop-place.left in
    let e = deref_pair c.unwrap.result in
    let ds = devices_from layout hertz 0 es (settings_in c.args.settings.now) in
    let here = ap (λ es. slice_get es c.loop-place.place) (sym c.as_slice-entries.ensures.entries)
    ∙ sym c.get_index.ensures.entry
    ∙ ap (option_map deref_pair) c.unwrap.ensures in
    c.requires.kept.each place e c.index-kept-place.result here
    (stands_at c.args.kept.now place c.index-kept-place.result (omega (
      arith,
      c.requires.kept.count,
      ap length c.as_slice-entries.ensures.entries,
      c.len-place-end.ensures,
      c.loop-place-test.true,
      c.loop-place.auto.place-end,
    )) c.index-kept-place.is)

pub returns-in_err-add_stamp-clause-fault : goal.returns-in_err-add_stamp-clause-fault
returns-in_err-add_stamp-clause-fault c =
    let es = c.args.elements.now.entries in
    let layout = c.args.layout.now in
    let hertz = c.args.hertz in
    let place = c.loop-place.place in
    let left = settings_in c.loop-place.left in
    let e = deref_pair c.unwrap.result in
    let ds = devices_from layout hertz 0 es (settings_in c.args.settings.now) in
    let here = ap (λ es. slice_get es c.loop-place.place) (sym c.as_slice-entries.ensures.entries)
    ∙ sym c.get_index.ensures.entry
    ∙ ap (option_map deref_pair) c.unwrap.ensures in
    let next = device_next layout hertz es ds place left e here c.loop-place.invariant.at in
    let p = err_from_is_err_and c.from_residual.result c.from_residual.ensures.1 in
    let fault = c.in_err-add_stamp.ensures.fault in
    rw (p.1, p.2) (first_at device_fits ds place _ _ c.loop-place.invariant.made.fits next fault.1 ∙ ap Some (sym fault.0))

pub add_stamp-requires-clause-terms : goal.add_stamp-requires-clause-terms
add_stamp-requires-clause-terms c =
    let es = c.args.elements.now.entries in
    let place = c.loop-place.place in
    let e = deref_pair c.unwrap.result in
    let here = ap (λ es. slice_get es c.loop-place.place) (sym c.as_slice-entries.ensures.entries)
    ∙ sym c.get_index.ensures.entry
    ∙ ap (option_map deref_pair) c.unwrap.ensures in
    let left = room_left es place e here (stamp_of c.loop-place.stamps.all) c.loop-place.invariant.few in
    omega (arith, left.terms, c.requires.room.all.terms, c.loop-place.invariant.room.all.terms)

pub add_stamp-requires-clause-loads : goal.add_stamp-requires-clause-loads
add_stamp-requires-clause-loads c =
    let es = c.args.elements.now.entries in
    let place = c.loop-place.place in
    let e = deref_pair c.unwrap.result in
    let here = ap (λ es. slice_get es c.loop-place.place) (sym c.as_slice-entries.ensures.entries)
    ∙ sym c.get_index.ensures.entry
    ∙ ap (option_map deref_pair) c.unwrap.ensures in
    let left = room_left es place e here (stamp_of c.loop-place.stamps.all) c.loop-place.invariant.few in
    omega (arith, left.loads, c.requires.room.all.loads, c.loop-place.invariant.room.all.loads)

pub add_stamp-requires-clause-constants : goal.add_stamp-requires-clause-constants
add_stamp-requires-clause-constants c =
    let es = c.args.elements.now.entries in
    let place = c.loop-place.place in
    let e = deref_pair c.unwrap.result in
    let here = ap (λ es. slice_get es c.loop-place.place) (sym c.as_slice-entries.ensures.entries)
    ∙ sym c.get_index.ensures.entry
    ∙ ap (option_map deref_pair) c.unwrap.ensures in
    let left = room_left es place e here (stamp_of c.loop-place.stamps.all) c.loop-place.invariant.few in
    omega (arith, left.constants, c.requires.room.all.constants, c.loop-place.invariant.room.all.constants)

pub add_stamp-requires-clause-former : goal.add_stamp-requires-clause-former
add_stamp-requires-clause-former c =
    let es = c.args.elements.now.entries in
    let layout = c.args.layout.now in
    let hertz = c.args.hertz in
    let place = c.loop-place.place in
    let e = deref_pair c.unwrap.result in
    let here = ap (λ es. slice_get es c.loop-place.place) (sym c.as_slice-entries.ensures.entries)
    ∙ sym c.get_index.ensures.entry
    ∙ ap (option_map deref_pair) c.unwrap.ensures in
    known_here layout hertz place e (drop (place + 1) es) (formers_in c.loop-place.before)
    (subst (λ r. IfSome (formers_in c.loop-place.before) (AreFormerFrom layout hertz place r)) (drop-more es place e here)
    c.loop-place.invariant.former)

pub after_former-before-requires-clause-first : goal.after_former-before-requires-clause-first
after_former-before-requires-clause-first c =
    let es = c.args.elements.now.entries in
    let layout = c.args.layout.now in
    let hertz = c.args.hertz in
    let place = c.loop-place.place in
    let e = deref_pair c.unwrap.result in
    let here = ap (λ es. slice_get es c.loop-place.place) (sym c.as_slice-entries.ensures.entries)
    ∙ sym c.get_index.ensures.entry
    ∙ ap (option_map deref_pair) c.unwrap.ensures in
    let known =
    known_here layout hertz place e (drop (place + 1) es) (formers_in c.loop-place.before)
    (subst (λ r. IfSome (formers_in c.loop-place.before) (AreFormerFrom layout hertz place r)) (drop-more es place e here)
    c.loop-place.invariant.former) in
    first_there layout hertz place e.1 (formers_in c.loop-place.before) known

pub after_former-before-requires-clause-own : goal.after_former-before-requires-clause-own
after_former-before-requires-clause-own c =
    let es = c.args.elements.now.entries in
    let layout = c.args.layout.now in
    let hertz = c.args.hertz in
    let place = c.loop-place.place in
    let e = deref_pair c.unwrap.result in
    let here = ap (λ es. slice_get es c.loop-place.place) (sym c.as_slice-entries.ensures.entries)
    ∙ sym c.get_index.ensures.entry
    ∙ ap (option_map deref_pair) c.unwrap.ensures in
    let known =
    known_here layout hertz place e (drop (place + 1) es) (formers_in c.loop-place.before)
    (subst (λ r. IfSome (formers_in c.loop-place.before) (AreFormerFrom layout hertz place r)) (drop-more es place e here)
    c.loop-place.invariant.former) in
    own_there layout hertz place e.1 (formers_in c.loop-place.before) known

pub add_stamp-requires-clause-draw : goal.add_stamp-requires-clause-draw
add_stamp-requires-clause-draw c =
    let es = c.args.elements.now.entries in
    omega (arith, c.loop-place.invariant.made.bounded.draw, length-take c.loop-place.place es, c.requires.few)

pub add_stamp-requires-clause-extents : goal.add_stamp-requires-clause-extents
add_stamp-requires-clause-extents c =
    let ds = devices_from c.args.layout.now c.args.hertz 0 c.args.elements.now.entries (settings_in c.args.settings.now) in
    let count = ap length c.as_slice-entries.ensures.entries in
    let few = extents_few ds c.loop-place.place in
    omega (
      arith,
      few,
      ap length c.loop-place.invariant.extents,
      count,
      c.len-place-end.ensures,
      c.loop-place-test.true,
      c.loop-place.auto.place-end,
      c.requires.room.extents,
      c.loop-place.invariant.room.extents,
    )

pub after-left-requires : goal.after-left-requires
after-left-requires c =
    let es = c.args.elements.now.entries in
    let layout = c.args.layout.now in
    let hertz = c.args.hertz in
    let place = c.loop-place.place in
    let left = settings_in c.loop-place.left in
    let e = deref_pair c.unwrap.result in
    let ds = devices_from layout hertz 0 es (settings_in c.args.settings.now) in
    let here = ap (λ es. slice_get es c.loop-place.place) (sym c.as_slice-entries.ensures.entries)
    ∙ sym c.get_index.ensures.entry
    ∙ ap (option_map deref_pair) c.unwrap.ensures in
    let taken = taken_at layout hertz es ds place left e here c.loop-place.invariant.at in
    taken.own

pub loop-place-preserved : goal.loop-place-preserved
loop-place-preserved c =
    let es = c.args.elements.now.entries in
    let layout = c.args.layout.now in
    let hertz = c.args.hertz in
    let place = c.loop-place.place in
    let left = settings_in c.loop-place.left in
    let e = deref_pair c.unwrap.result in
    let ds = devices_from layout hertz 0 es (settings_in c.args.settings.now) in
    let here = ap (λ es. slice_get es c.loop-place.place) (sym c.as_slice-entries.ensures.entries)
    ∙ sym c.get_index.ensures.entry
    ∙ ap (option_map deref_pair) c.unwrap.ensures in
    let d = device_of layout hertz place e.1 (own e.1 left) in
    let next = device_next layout hertz es ds place left e here c.loop-place.invariant.at in
    let m = length layout.nodes in
    let n = complex_count layout in
    let size = size_of layout in
    let more = collected_more m n size (take place es) e (take place ds) d (stamp_of c.loop-place.stamps.all)
    (device_stamp d) (stamp_of c.add_stamp.new.stamps.all) c.loop-place.invariant.made
    c.in_ok-add_stamp.ensures.settled refl c.in_ok-add_stamp.ensures.stamp in
    record {
      at = subst (IsAt layout hertz es ds (place + 1)) (sym c.after-left.ensures) (next_at layout hertz es ds place left e here c.loop-place.invariant.at);
      made = subst (λ xs. AreCollected m n size xs (take (place + 1) ds) (stamp_of c.add_stamp.new.stamps.all))
          (sym (take-more es place e here))
          (subst (λ xs. AreCollected m n size (take place es ++ e ∷ []) xs (stamp_of c.add_stamp.new.stamps.all))
          (sym (take-more ds place d (here_from ds place d _ next))) more);
      former = subst (λ o. IfSome o (AreFormerFrom layout hertz (place + 1) (drop (place + 1) es))) (sym c.after_former-before.ensures)
          (known_next layout hertz place e (drop (place + 1) es) (formers_in c.loop-place.before)
          (subst (λ r. IfSome (formers_in c.loop-place.before) (AreFormerFrom layout hertz place r)) (drop-more es place e here)
          c.loop-place.invariant.former));
      few = few_next es place e here (stamp_of c.loop-place.stamps.all) (device_stamp d)
          (stamp_of c.add_stamp.new.stamps.all) c.loop-place.invariant.few c.in_ok-add_stamp.ensures.few
          c.in_ok-add_stamp.ensures.stamp;
      extents = c.in_ok-add_stamp.ensures.extents
          ∙ (λ i. c.loop-place.invariant.extents i ++ extent_of (device_stamp d) ∷ [])
          ∙ sym (extents_more (take place ds) d) ∙ ap extents_of (sym (take-more ds place d (here_from ds place d _ next)));
      room = room_both c.clear.new.self c.loop-place.stamps c.add_stamp.new.stamps c.loop-place.invariant.room c.add_stamp.ensures.room;
      one = room_then c.args.one.now c.loop-place.one c.add_stamp.new.one c.loop-place.invariant.one c.add_stamp.ensures.one;
    }

pub returns-clause-extents : goal.returns-clause-extents
returns-clause-extents c =
    let es = c.args.elements.now.entries in
    let layout = c.args.layout.now in
    let place = c.loop-place.place in
    let ds = devices_from layout c.args.hertz 0 es (settings_in c.args.settings.now) in
    let count = ap length c.as_slice-entries.ensures.entries in
    let all : length es ≤ place = omega (arith, count, c.len-place-end.ensures, c.loop-place-test.false) in
    let devices : length ds ≤ place = omega (arith, all, devices_length layout c.args.hertz 0 es (settings_in c.args.settings.now)) in
    c.loop-place.invariant.extents ∙ ap extents_of (take_all place ds devices)

pub returns-clause-collected : goal.returns-clause-collected
returns-clause-collected c =
    let es = c.args.elements.now.entries in
    let layout = c.args.layout.now in
    let place = c.loop-place.place in
    let ds = devices_from layout c.args.hertz 0 es (settings_in c.args.settings.now) in
    let count = ap length c.as_slice-entries.ensures.entries in
    let all : length es ≤ place = omega (arith, count, c.len-place-end.ensures, c.loop-place-test.false) in
    let devices : length ds ≤ place = omega (arith, all, devices_length layout c.args.hertz 0 es (settings_in c.args.settings.now)) in
    let m = length layout.nodes in
    let n = complex_count layout in
    let size = size_of layout in
    subst (λ xs. AreCollected m n size xs ds (stamp_of c.loop-place.stamps.all)) (take_all place es all)
    (subst (λ xs. AreCollected m n size (take place es) xs (stamp_of c.loop-place.stamps.all)) (take_all place ds devices) c.loop-place.invariant.made)
