use Rattle.std.proofs.Common.{◌≤◌, ◌∙◌, ap, length, sym, slice_get, arith}
use Rattle.std.specs.Option.{option_map}
use Rattle.std.specs.Map.Iter.{deref_pair}
use Rattle.fd_pages.proofs.Recorded.{places_end, places_next}
use Rattle.fd_pages.proofs.records.control_places.Goals as goal

pub loop-place-preserved : goal.loop-place-preserved
loop-place-preserved c =
    let entries = c.as_slice-entries.ensures.entries ∙ c.elements.ensures.entries in
    let here =
    ap (λ es. slice_get es c.loop-place.place) (sym entries) ∙ sym c.get_index.ensures.entry
    ∙ ap (option_map deref_pair) c.unwrap.ensures in
    places_next c.args.circuit.now.elements c.loop-place.place _ c.loop-place.places.items _ c.loop-place.invariant
    here c.in_ok-add_place.ensures

pub returns : goal.returns
returns c =
    let es = c.args.circuit.now.elements in
    let entries = ap length (c.as_slice-entries.ensures.entries ∙ c.elements.ensures.entries) in
    let count : length es ≤ c.loop-place.place =
    omega (arith, c.loop-place-test.false, c.len-place-end.ensures, entries) in
    places_end es c.loop-place.place c.loop-place.places.items c.loop-place.invariant count
