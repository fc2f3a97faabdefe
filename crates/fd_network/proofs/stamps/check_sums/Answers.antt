use Rattle.std.proofs.Common.{◌≡◌, ◌∙◌, ◌+◌, ◌≤◌, Bool, true, false, [], ◌∷◌, length, take, slice_get, arith, ap, sym, subst}
use Rattle.std.specs.List.{All}
use Rattle.std.specs.Option.{option_map}
use Rattle.std.specs.Map.Iter.{deref_pair}
use Rattle.std.proofs.lemmas.List.{take_all}
use Rattle.std.proofs.lemmas.List.Elements.{All-append, All-cons, All-nil}
use Rattle.dss_ready.proofs.CallerLemmas.dss_layout.{take-more}
use Rattle.fd_devices.specs.Building.{DeviceFits, HasSmallSums, has_small_sums}
use Rattle.fd_devices.specs.fd_system.System.{StampView}
use Rattle.fd_devices.proofs.CallerLemmas.fd_system.{room_then}
use Rattle.fd_devices.specs.Scripted.{device_of, devices_from}
use Rattle.fd_devices.specs.Settings.{own}
use Rattle.fd_devices.proofs.CallerLemmas.{devices_length}
use Rattle.fd_devices.specs.Settings.{settings_in}
use Rattle.fd_network.proofs.Faulty.{first_at, holds_next}
use Rattle.fd_network.proofs.Sums.{IsSmallAt, at_small, small_at}
use Rattle.fd_network.proofs.Taking.{IsAt, device_next, here_from, next_at, taken_at}
use Rattle.fd_network.proofs.Walking.{stands_at}
use Rattle.fd_network.proofs.stamps.check_sums.Goals as goal

not_both : (b : Bool) → b ≡ false → b ≡ true → ⊥
not_both b f t = cc

pub stamp_at-requires-clause-taken : goal.stamp_at-requires-clause-taken
stamp_at-requires-clause-taken c =
    let es = c.args.elements.now.entries in
    let layout = c.args.layout.now in
    let hertz = c.args.hertz in
    let place = c.loop-place.place in
    let left = settings_in c.loop-place.left in
    let e = deref_pair c.unwrap.result in
    let ds = devices_from layout hertz 0 es (settings_in c.args.settings.now) in
    let here = ap (λ es. slice_get es c.loop-place.place) (sym c.as_slice-entries.ensures.entries)
    ∙ sym c.get_index.ensures.entry
    ∙ ap (option_map deref_pair) c.unwrap.ensures in
    taken_at layout hertz es ds place left e here c.loop-place.invariant.at

pub stamp_at-requires-clause-kept : goal.stamp_at-requires-clause-kept
stamp_at-requires-clause-kept c =
    let es = c.args.elements.now.entries in
    let layout = c.args.layout.now in
    let hertz = c.args.hertz in
    let place = c.loop-place.place in
    let left = settings_in c.loop-place.left in
    let e = deref_pair c.unwrap.result in
    let ds = devices_from layout hertz 0 es (settings_in c.args.settings.now) in
    let here = ap (λ es. slice_get es c.loop-place.place) (sym c.as_slice-entries.ensures.entries)
    ∙ sym c.get_index.ensures.entry
    ∙ ap (option_map deref_pair) c.unwrap.ensures in
    c.requires.kept.each place e c.index-kept-place.result here
    (stands_at c.args.kept.now place c.index-kept-place.result (omega (
      arith,
      c.requires.kept.count,
      ap length c.as_slice-entries.ensures.entries,
      c.len-place-end.ensures,
      c.loop-place-test.true,
      c.loop-place.auto.place-end,
    )) c.index-kept-place.is)

pub returns-in_err-stamp_at-clause-fault : goal.returns-in_err-stamp_at-clause-fault
returns-in_err-stamp_at-clause-fault c =
    let es = c.args.elements.now.entries in
    let layout = c.args.layout.now in
    let hertz = c.args.hertz in
    let place = c.loop-place.place in
    let left = settings_in c.loop-place.left in
    let e = deref_pair c.unwrap.result in
    let ds = devices_from layout hertz 0 es (settings_in c.args.settings.now) in
    let here = ap (λ es. slice_get es c.loop-place.place) (sym c.as_slice-entries.ensures.entries)
    ∙ sym c.get_index.ensures.entry
    ∙ ap (option_map deref_pair) c.unwrap.ensures in
    let next = device_next layout hertz es ds place left e here c.loop-place.invariant.at in
    absurd (c.in_err-stamp_at.ensures.fault.1 (holds_next DeviceFits ds place _ _ c.requires.fits next))

pub returns-then-not-have_small_sums-clause-fault : goal.returns-then-not-have_small_sums-clause-fault
returns-then-not-have_small_sums-clause-fault c =
    let es = c.args.elements.now.entries in
    let layout = c.args.layout.now in
    let hertz = c.args.hertz in
    let place = c.loop-place.place in
    let left = settings_in c.loop-place.left in
    let e = deref_pair c.unwrap.result in
    let ds = devices_from layout hertz 0 es (settings_in c.args.settings.now) in
    let here = ap (λ es. slice_get es c.loop-place.place) (sym c.as_slice-entries.ensures.entries)
    ∙ sym c.get_index.ensures.entry
    ∙ ap (option_map deref_pair) c.unwrap.ensures in
    let next = device_next layout hertz es ds place left e here c.loop-place.invariant.at in
    let all = c.args.rows.now.terms in
    let d = device_of layout hertz place e.1 (own e.1 left) in
    let terms = c.deref.ensures.value ∙ ap (λ (a : StampView). a.terms) c.in_ok-stamp_at.ensures.stamp in
    first_at (has_small_sums all) ds place _ _ c.loop-place.invariant.small next
    (λ h. not_both c.have_small_sums.result c.if-not-have_small_sums.true
    (c.have_small_sums.ensures.1 (subst (All (IsSmallAt all)) (sym terms) (small_at all d h))))

pub after-left-requires : goal.after-left-requires
after-left-requires c =
    let es = c.args.elements.now.entries in
    let layout = c.args.layout.now in
    let hertz = c.args.hertz in
    let place = c.loop-place.place in
    let left = settings_in c.loop-place.left in
    let e = deref_pair c.unwrap.result in
    let ds = devices_from layout hertz 0 es (settings_in c.args.settings.now) in
    let here = ap (λ es. slice_get es c.loop-place.place) (sym c.as_slice-entries.ensures.entries)
    ∙ sym c.get_index.ensures.entry
    ∙ ap (option_map deref_pair) c.unwrap.ensures in
    let taken = taken_at layout hertz es ds place left e here c.loop-place.invariant.at in
    taken.own

pub loop-place-preserved : goal.loop-place-preserved
loop-place-preserved c =
    let es = c.args.elements.now.entries in
    let layout = c.args.layout.now in
    let hertz = c.args.hertz in
    let place = c.loop-place.place in
    let left = settings_in c.loop-place.left in
    let e = deref_pair c.unwrap.result in
    let ds = devices_from layout hertz 0 es (settings_in c.args.settings.now) in
    let here = ap (λ es. slice_get es c.loop-place.place) (sym c.as_slice-entries.ensures.entries)
    ∙ sym c.get_index.ensures.entry
    ∙ ap (option_map deref_pair) c.unwrap.ensures in
    let d = device_of layout hertz place e.1 (own e.1 left) in
    let next = device_next layout hertz es ds place left e here c.loop-place.invariant.at in
    let all = c.args.rows.now.terms in
    let P = HasSmallSums all in
    let terms = c.deref.ensures.value ∙ ap (λ (a : StampView). a.terms) c.in_ok-stamp_at.ensures.stamp in
    let here_small = at_small all d (subst (All (IsSmallAt all)) terms (c.have_small_sums.ensures.0 c.if-not-have_small_sums.false)) in
    record {
      at = subst (IsAt layout hertz es ds (place + 1)) (sym c.after-left.ensures) (next_at layout hertz es ds place left e here c.loop-place.invariant.at);
      small = subst (All P) (sym (take-more ds place d (here_from ds place d _ next))) (All-append P (take place ds)
          (d ∷ []) c.loop-place.invariant.small (All-cons P d [] here_small (All-nil P)));
      one = room_then c.args.one.now c.loop-place.one c.stamp_at.new.into c.loop-place.invariant.one c.stamp_at.ensures.room;
    }

pub returns-clause-small : goal.returns-clause-small
returns-clause-small c =
    let es = c.args.elements.now.entries in
    let layout = c.args.layout.now in
    let place = c.loop-place.place in
    let ds = devices_from layout c.args.hertz 0 es (settings_in c.args.settings.now) in
    let count = ap length c.as_slice-entries.ensures.entries in
    let all : length es ≤ place = omega (arith, count, c.len-place-end.ensures, c.loop-place-test.false) in
    let devices : length ds ≤ place = omega (arith, all, devices_length layout c.args.hertz 0 es (settings_in c.args.settings.now)) in
    subst (All (HasSmallSums c.args.rows.now.terms)) (take_all place ds devices) c.loop-place.invariant.small
