use Rattle.std.proofs.Common.{◌∙◌, ◌++◌, slice_get, ap, sym, arith}
use Rattle.std.specs.Option.{option_map}
use Rattle.std.specs.Map.Iter.{deref_pair}
use Rattle.std.proofs.lemmas.Option.{slice_get_within}
use Rattle.fd_network.specs.dss_layout.Layout.{layout_of}
use Rattle.fd_sweep.specs.Ladders.{shunts_of}
use Rattle.fd_sweep.proofs.Placing.{shunts_next}
use Rattle.fd_sweep.proofs.Ready.{ready_here}
use Rattle.fd_sweep.proofs.ladder.shunts_in.Goals as goal

pub add_shunts-requires-clause-ready : goal.add_shunts-requires-clause-ready
add_shunts-requires-clause-ready c =
    let place = c.loop-place.place in
    let here = ap (λ es. slice_get es place) (sym c.elements.ensures.entries)
    ∙ ap (λ es. slice_get es place) (sym c.as_slice-entries.ensures.entries)
    ∙ sym c.get_index.ensures.entry
    ∙ ap (option_map deref_pair) c.unwrap.ensures in
    ready_here c.args.circuit.now c.requires.ready c.elements.ensures.in_range place (deref_pair c.unwrap.result)
    (slice_get_within c.args.circuit.now.elements place (deref_pair c.unwrap.result) here) here

pub loop-place-preserved : goal.loop-place-preserved
loop-place-preserved c =
    let circuit = c.args.circuit.now in
    let layout = layout_of circuit.elements in
    let hertz = circuit.options.defaultbasefrequency in
    let place = c.loop-place.place in
    let here = ap (λ es. slice_get es place) (sym c.elements.ensures.entries)
    ∙ ap (λ es. slice_get es place) (sym c.as_slice-entries.ensures.entries)
    ∙ sym c.get_index.ensures.entry
    ∙ ap (option_map deref_pair) c.unwrap.ensures in
    record {
      value = shunts_next layout hertz circuit.elements place _ c.loop-place.shunts.items _ _ c.loop-place.left.now _ here
          (c.in_ok-add_shunts.ensures.value
          ∙ ap (λ b. c.loop-place.shunts.items ++ shunts_of layout hertz place c.unwrap.result.1.now b) c.first_state.ensures)
          c.states_after-left.ensures c.loop-place.invariant.value;
      small = c.in_ok-add_shunts.ensures.small;
      few = omega (arith, c.in_ok-add_shunts.ensures.few, c.loop-place.invariant.few);
    }
