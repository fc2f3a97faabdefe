use Rattle.std.proofs.Common.{◌∙◌, ◌+◌, ◌++◌, ◌≤◌, [], ◌∷◌, ap, arith, length, sym, slice_get, subst, take}
use Rattle.std.proofs.lemmas.List.{take_all}
use Rattle.std.specs.Option.{option_map}
use Rattle.std.specs.Map.Iter.{deref_pair}
use Rattle.fd_devices.specs.dss_model.InRange.{ElementInRange}
use Rattle.fd_devices.specs.dss_model.declared.element.Element.{Element}
use Rattle.fd_devices.specs.dss_model.declared.names.ElementName.{ElementName}
use Rattle.fd_devices.proofs.CallerLemmas.{all_at}
use Rattle.fd_devices.proofs.CallerLemmas.dss_layout.{take-more}
use Rattle.fd_devices.specs.dss_layout.Layout.{Elements}
use Rattle.fd_settings.specs.Daily.{AreDailyOf}
use Rattle.fd_settings.proofs.Daily.{daily_more}
use Rattle.fd_settings.proofs.hours.DailyLoads.of.Goals as goal

pub daily_load-requires : goal.daily_load-requires
daily_load-requires c =
    let entries = c.as_slice-entries.ensures.entries ∙ c.elements.ensures.entries in
    let here = ap (λ es. slice_get es c.loop-place.place) (sym entries) ∙ sym c.get_index.ensures.entry ∙ ap (option_map deref_pair) c.unwrap.ensures in
    record {
      range = all_at (λ (e : ElementName × Element). ElementInRange e.1) c.args.circuit.now.elements c.loop-place.place _
          c.elements.ensures.in_range here;
    }

pub loop-place-preserved : goal.loop-place-preserved
loop-place-preserved c =
    let entries = c.as_slice-entries.ensures.entries ∙ c.elements.ensures.entries in
    let here = ap (λ es. slice_get es c.loop-place.place) (sym entries) ∙ sym c.get_index.ensures.entry ∙ ap (option_map deref_pair) c.unwrap.ensures in
    let es = c.args.circuit.now.elements in
    let place = c.loop-place.place in
    subst (AreDailyOf es (take (place + 1) es)) (sym c.in_ok-push.ensures.items)
    (subst (λ (xs : Elements). AreDailyOf es xs (c.loop-place.each.items ++ c.in_ok-daily_load.field-0 ∷ [])) (sym (take-more es place _ here))
    (daily_more es (take place es) c.loop-place.each.items _ _ c.loop-place.invariant c.in_ok-daily_load.ensures))

pub returns : goal.returns
returns c =
    let es = c.args.circuit.now.elements in
    let entries = ap length (c.as_slice-entries.ensures.entries ∙ c.elements.ensures.entries) in
    let all : length es ≤ c.loop-place.place = omega (arith, entries, c.len-place-end.ensures, c.loop-place-test.false) in
    subst (λ (xs : Elements). AreDailyOf es xs c.loop-place.each.items) (take_all c.loop-place.place es all) c.loop-place.invariant
