use Rattle.std.proofs.Common.{ap, sym, ◌∙◌, slice_get}
use Rattle.std.specs.Option.{option_map}
use Rattle.std.specs.Map.Iter.{deref_pair}
use Rattle.fd_ladder.proofs.Placing.{sections_next}
use Rattle.fd_ladder.proofs.section.sections_in.Goals as goal

pub loop-place-preserved : goal.loop-place-preserved
loop-place-preserved c =
    let here = ap (λ es. slice_get es c.loop-place.place) (sym c.as_slice-entries.ensures.entries)
    ∙ sym c.get_index.ensures.entry
    ∙ ap (option_map deref_pair) c.unwrap.ensures in
    sections_next c.args.elements.now.entries c.loop-place.place _ c.loop-place.sections.items _ _ here
    c.in_ok-push_section.ensures c.loop-place.invariant
