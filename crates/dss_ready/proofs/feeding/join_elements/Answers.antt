use Rattle.std.proofs.Common.{ap, sym, ◌∙◌, slice_get}
use Rattle.std.specs.Option.{option_map}
use Rattle.std.specs.Map.Iter.{deref_pair}
use Rattle.dss_ready.proofs.Joining.{joined_next}
use Rattle.dss_ready.proofs.feeding.join_elements.Goals as goal

pub loop-place-preserved : goal.loop-place-preserved
loop-place-preserved c =
    let here = ap (λ es. slice_get es c.loop-place.place) (sym c.as_slice-entries.ensures.entries)
    ∙ sym c.get_index.ensures.entry
    ∙ ap (option_map deref_pair) c.unwrap.ensures in
    joined_next c.args.layout.now.nodes _ c.loop-place.place _ _ _ _ here c.in_ok-join_element.ensures ∙ c.loop-place.invariant
