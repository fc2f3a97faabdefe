use Rattle.std.proofs.Common.{◌∙◌, ◌++◌, [], ◌∷◌, slice_get, ap, sym}
use Rattle.std.specs.Option.{option_map}
use Rattle.std.specs.Map.Iter.{deref_pair}
use Rattle.fd_sweep.proofs.Placing.{taps_next}
use Rattle.fd_sweep.proofs.positions.taps_of.Goals as goal

pub loop-place-preserved : goal.loop-place-preserved
loop-place-preserved c =
    let here = ap (λ es. slice_get es c.loop-place.place) (sym c.as_slice-entries.ensures.entries)
    ∙ sym c.get_index.ensures.entry
    ∙ ap (option_map deref_pair) c.unwrap.ensures in
    taps_next c.args.elements.now.entries c.loop-place.place _ c.loop-place.all.items _ c.loop-place.left.now _ _ here
    (c.in_ok-push.ensures.items ∙ ap (λ t. c.loop-place.all.items ++ t ∷ []) c.first_taps.ensures)
    c.taps_after-left.ensures c.loop-place.invariant
