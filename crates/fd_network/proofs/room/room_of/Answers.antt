use Rattle.std.proofs.Common.{◌∙◌, slice_get, arith, ap, sym}
use Rattle.std.specs.Option.{option_map}
use Rattle.std.specs.Map.Iter.{deref_pair}
use Rattle.fd_devices.specs.Kept.{most_constants, most_loads, most_terms}
use Rattle.fd_network.proofs.Filling.{one_more}
use Rattle.fd_network.proofs.Walking.{at_place}
use Rattle.dss_ready.specs.dss_model.InRange.{ElementInRange}
use Rattle.dss_ready.specs.dss_model.declared.element.Element.{Element}
use Rattle.dss_ready.specs.dss_model.declared.names.ElementName.{ElementName}
use Rattle.fd_network.proofs.room.room_of.Goals as goal

pub most_terms-requires : goal.most_terms-requires
most_terms-requires c =
    let es = c.args.elements.now.entries in
    let place = c.loop-place.place in
    let e = deref_pair c.unwrap.result in
    let here = ap (λ es. slice_get es c.loop-place.place) (sym c.as_slice-entries.ensures.entries)
    ∙ sym c.get_index.ensures.entry
    ∙ ap (option_map deref_pair) c.unwrap.ensures in
    at_place (λ (x : ElementName × Element). ElementInRange x.1) es place e here c.requires.in_range

pub most_loads-requires : goal.most_loads-requires
most_loads-requires c =
    let es = c.args.elements.now.entries in
    let place = c.loop-place.place in
    let e = deref_pair c.unwrap.result in
    let here = ap (λ es. slice_get es c.loop-place.place) (sym c.as_slice-entries.ensures.entries)
    ∙ sym c.get_index.ensures.entry
    ∙ ap (option_map deref_pair) c.unwrap.ensures in
    at_place (λ (x : ElementName × Element). ElementInRange x.1) es place e here c.requires.in_range

pub loop-place-preserved : goal.loop-place-preserved
loop-place-preserved c =
    let es = c.args.elements.now.entries in
    let place = c.loop-place.place in
    let e = deref_pair c.unwrap.result in
    let here = ap (λ es. slice_get es c.loop-place.place) (sym c.as_slice-entries.ensures.entries)
    ∙ sym c.get_index.ensures.entry
    ∙ ap (option_map deref_pair) c.unwrap.ensures in
    let more = one_more es place e here in
    record {
      elements = c.loop-place.invariant.elements;
      terms = omega (arith, c.loop-place.invariant.terms, c.most_terms.ensures.value, more (λ x. most_terms x.1));
      loads = omega (arith, c.loop-place.invariant.loads, c.most_loads.ensures.value, more (λ x. most_loads x.1));
      constants = omega (arith, c.loop-place.invariant.constants, c.most_constants.ensures.value, more (λ x. most_constants x.1));
      few_terms = omega (arith, c.loop-place.invariant.few_terms, c.most_terms.ensures.small);
      few_loads = omega (arith, c.loop-place.invariant.few_loads, c.most_loads.ensures.small);
      few_constants = omega (arith, c.loop-place.invariant.few_constants, c.most_constants.ensures.small);
    }
