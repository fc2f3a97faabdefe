use Rattle.std.proofs.Common.{◌∙◌, ◌+◌, ◌≤◌, [], ◌∷◌, length, take, slice_get, arith, ap, sym, subst}
use Rattle.std.specs.List.{All, flat_map}
use Rattle.std.specs.Option.{option_map}
use Rattle.std.specs.Map.Iter.{deref_pair}
use Rattle.std.proofs.lemmas.List.{take_all}
use Rattle.std.proofs.lemmas.List.Elements.{All-append, All-cons, All-nil}
use Rattle.std.proofs.lemmas.Result.{err_from_is_err_and}
use Rattle.dss_ready.specs.dss_layout.Layout.{size_of}
use Rattle.dss_ready.proofs.CallerLemmas.dss_layout.{take-more}
use Rattle.fd_equations.specs.fd_pattern.Patterns.{IsInside}
use Rattle.fd_devices.specs.Building.{DeviceFits}
use Rattle.fd_devices.specs.Reach.{device_places}
use Rattle.fd_devices.specs.Scripted.{device_of, devices_from}
use Rattle.fd_devices.specs.Settings.{own}
use Rattle.fd_devices.proofs.CallerLemmas.{devices_length}
use Rattle.fd_devices.specs.Settings.{settings_in}
use Rattle.fd_network.proofs.Faulty.{misfit_first}
use Rattle.fd_network.proofs.Taking.{IsAt, device_next, here_from, next_at, taken_at}
use Rattle.fd_network.proofs.Walking.{AreKeptTo, kept_next, places_more}
use Rattle.fd_network.proofs.keeping.keep.Goals as goal

pub kept_at-requires : goal.kept_at-requires
kept_at-requires c =
    let es = c.args.elements.now.entries in
    let layout = c.args.layout.now in
    let hertz = c.args.hertz in
    let place = c.loop-place.place in
    let left = settings_in c.loop-place.left in
    let e = deref_pair c.unwrap.result in
    let ds = devices_from layout hertz 0 es (settings_in c.args.settings.now) in
    let here = ap (λ es. slice_get es c.loop-place.place) (sym c.as_slice-entries.ensures.entries)
    ∙ sym c.get_index.ensures.entry
    ∙ ap (option_map deref_pair) c.unwrap.ensures in
    taken_at layout hertz es ds place left e here c.loop-place.invariant.at

pub returns-in_err-one-clause-fault : goal.returns-in_err-one-clause-fault
returns-in_err-one-clause-fault c =
    let es = c.args.elements.now.entries in
    let layout = c.args.layout.now in
    let hertz = c.args.hertz in
    let place = c.loop-place.place in
    let left = settings_in c.loop-place.left in
    let e = deref_pair c.unwrap.result in
    let ds = devices_from layout hertz 0 es (settings_in c.args.settings.now) in
    let here = ap (λ es. slice_get es c.loop-place.place) (sym c.as_slice-entries.ensures.entries)
    ∙ sym c.get_index.ensures.entry
    ∙ ap (option_map deref_pair) c.unwrap.ensures in
    let next = device_next layout hertz es ds place left e here c.loop-place.invariant.at in
    let p = err_from_is_err_and c.from_residual-in_err-one.result c.from_residual-in_err-one.ensures.1 in
    rw (p.1, p.2) (misfit_first ds place _ _ c.in_err-one.field-0.0 c.loop-place.invariant.fits next c.in_err-one.ensures.fault)

pub after-left-requires : goal.after-left-requires
after-left-requires c =
    let es = c.args.elements.now.entries in
    let layout = c.args.layout.now in
    let hertz = c.args.hertz in
    let place = c.loop-place.place in
    let left = settings_in c.loop-place.left in
    let e = deref_pair c.unwrap.result in
    let ds = devices_from layout hertz 0 es (settings_in c.args.settings.now) in
    let here = ap (λ es. slice_get es c.loop-place.place) (sym c.as_slice-entries.ensures.entries)
    ∙ sym c.get_index.ensures.entry
    ∙ ap (option_map deref_pair) c.unwrap.ensures in
    let taken = taken_at layout hertz es ds place left e here c.loop-place.invariant.at in
    taken.own

pub loop-place-preserved : goal.loop-place-preserved
loop-place-preserved c =
    let es = c.args.elements.now.entries in
    let layout = c.args.layout.now in
    let hertz = c.args.hertz in
    let place = c.loop-place.place in
    let left = settings_in c.loop-place.left in
    let e = deref_pair c.unwrap.result in
    let ds = devices_from layout hertz 0 es (settings_in c.args.settings.now) in
    let here = ap (λ es. slice_get es c.loop-place.place) (sym c.as_slice-entries.ensures.entries)
    ∙ sym c.get_index.ensures.entry
    ∙ ap (option_map deref_pair) c.unwrap.ensures in
    let d = device_of layout hertz place e.1 (own e.1 left) in
    let next = device_next layout hertz es ds place left e here c.loop-place.invariant.at in
    let size = size_of layout in
    let more = c.in_ok-one.ensures.places in
    record {
      at = subst (IsAt layout hertz es ds (place + 1)) (sym c.after-left.ensures) (next_at layout hertz es ds place left e here c.loop-place.invariant.at);
      kept = subst (AreKeptTo layout hertz es (place + 1)) (sym c.push_reserved.ensures.items)
          (kept_next layout hertz es place c.loop-place.kept.items e c.in_ok-one.one c.loop-place.invariant.kept here
          c.in_ok-one.ensures.kept);
      capacity = omega (arith, c.loop-place.invariant.capacity, c.push_reserved.ensures.capacity);
      fits = subst (All DeviceFits) (sym (take-more ds place d (here_from ds place d _ next)))
          (All-append DeviceFits (take place ds) (d ∷ []) c.loop-place.invariant.fits
          (All-cons DeviceFits d [] c.in_ok-one.ensures.settled.fits (All-nil DeviceFits)));
      places = more ∙ places_more ds place d _ c.loop-place.places.items next c.loop-place.invariant.places;
      inside = subst (All (IsInside size)) (sym more) (All-append (IsInside size) c.loop-place.places.items
          (device_places d) c.loop-place.invariant.inside c.in_ok-one.ensures.inside);
    }

pub returns-clause-places : goal.returns-clause-places
returns-clause-places c =
    let es = c.args.elements.now.entries in
    let layout = c.args.layout.now in
    let place = c.loop-place.place in
    let ds = devices_from layout c.args.hertz 0 es (settings_in c.args.settings.now) in
    let count = ap length c.as_slice-entries.ensures.entries in
    let all : length es ≤ place = omega (arith, count, c.len-place-end.ensures, c.loop-place-test.false) in
    let devices : length ds ≤ place = omega (arith, all, devices_length layout c.args.hertz 0 es (settings_in c.args.settings.now)) in
    c.loop-place.invariant.places ∙ ap (flat_map device_places) (take_all place ds devices)

pub returns-clause-fits : goal.returns-clause-fits
returns-clause-fits c =
    let es = c.args.elements.now.entries in
    let layout = c.args.layout.now in
    let place = c.loop-place.place in
    let ds = devices_from layout c.args.hertz 0 es (settings_in c.args.settings.now) in
    let count = ap length c.as_slice-entries.ensures.entries in
    let all : length es ≤ place = omega (arith, count, c.len-place-end.ensures, c.loop-place-test.false) in
    let devices : length ds ≤ place = omega (arith, all, devices_length layout c.args.hertz 0 es (settings_in c.args.settings.now)) in
    subst (All DeviceFits) (take_all place ds devices) c.loop-place.invariant.fits
