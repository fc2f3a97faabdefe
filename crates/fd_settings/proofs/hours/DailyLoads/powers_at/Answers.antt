use Rattle.std.proofs.Common.{◌∙◌, ◌++◌, ◌<◌, ap, arith, length, sym, slice_get, subst}
use Rattle.std.specs.Option.{option_map}
use Rattle.std.specs.Map.Iter.{deref_pair}
use Rattle.std.proofs.lemmas.Option.{slice_get-get_or}
use Rattle.fd_devices.specs.dss_model.InRange.{ElementInRange}
use Rattle.fd_devices.specs.dss_model.declared.element.Element.{Element}
use Rattle.fd_devices.specs.dss_model.declared.names.ElementName.{ElementName}
use Rattle.fd_settings.specs.Daily.{AreDailyOf}
use Rattle.fd_settings.specs.Hours.{element_powers}
use Rattle.fd_devices.proofs.CallerLemmas.{all_at}
use Rattle.fd_settings.proofs.Daily.{daily_at, daily_count}
use Rattle.fd_settings.proofs.Steps.{flat_map_at}
use Rattle.fd_settings.proofs.hours.DailyLoads.powers_at.Goals as goal

pub bounds-each-place : goal.bounds-each-place
bounds-each-place c =
    let es = c.args.circuit.now.elements in
    let daily = subst (AreDailyOf es es) (sym c.as_slice-each.ensures.value) c.requires in
    omega (
      arith,
      daily_count es es c.as_slice-each.result.now daily,
      ap length (c.as_slice-entries.ensures.entries ∙ c.elements.ensures.entries),
      c.len-place-end.ensures,
      c.loop-place-test.true,
      c.loop-place.auto.place-end,
    )

pub add_powers-requires : goal.add_powers-requires
add_powers-requires c =
    let es = c.args.circuit.now.elements in
    let each = c.as_slice-each.result.now in
    let daily = subst (AreDailyOf es es) (sym c.as_slice-each.ensures.value) c.requires in
    let entries = c.as_slice-entries.ensures.entries ∙ c.elements.ensures.entries in
    let here = ap (λ es. slice_get es c.loop-place.place) (sym entries) ∙ sym c.get_index.ensures.entry ∙ ap (option_map deref_pair) c.unwrap.ensures in
    let within : c.loop-place.place < length each = omega (
      arith,
      daily_count es es each daily,
      ap length entries,
      c.len-place-end.ensures,
      c.loop-place-test.true,
      c.loop-place.auto.place-end,
    ) in
    record {
      range = all_at (λ (e : ElementName × Element). ElementInRange e.1) es c.loop-place.place _ c.elements.ensures.in_range here;
      own = daily_at es es each c.loop-place.place (deref_pair c.unwrap.result) _ daily here
          (slice_get-get_or each c.loop-place.place _ within);
    }

pub loop-place-preserved : goal.loop-place-preserved
loop-place-preserved c =
    let entries = c.as_slice-entries.ensures.entries ∙ c.elements.ensures.entries in
    let here = ap (λ es. slice_get es c.loop-place.place) (sym entries) ∙ sym c.get_index.ensures.entry ∙ ap (option_map deref_pair) c.unwrap.ensures in
    record {
      powers = c.in_ok-add_powers.ensures.powers
          ∙ ap (λ ps. ps ++ element_powers c.args.circuit.now.elements c.args.hour c.unwrap.result.1.now)
          c.loop-place.invariant.powers
          ∙ sym (flat_map_at (λ (e : ElementName × Element).
          element_powers c.args.circuit.now.elements c.args.hour e.1)
          c.args.circuit.now.elements c.loop-place.place _ here);
      modest = c.in_ok-add_powers.ensures.modest c.loop-place.invariant.modest;
    }
