use Rattle.std.proofs.Common.{◌∙◌, ◌≤◌, ap, sym, subst, length, slice_get}
use Rattle.std.specs.Option.{option_map}
use Rattle.std.specs.Map.Iter.{deref_pair}
use Rattle.fd_devices.specs.Settings.{bank_count, tap_count}
use Rattle.fd_settings.specs.Positions.{next_closed_of, next_taps_of}
use Rattle.fd_settings.proofs.Next.{next_done, taps_next, states_next}
use Rattle.fd_settings.proofs.positions.next_positions.Goals as goal

pub loop-place-preserved : goal.loop-place-preserved
loop-place-preserved c =
    let entries = c.as_slice-entries.ensures.entries ∙ c.elements.ensures.entries in
    let here = ap (λ es. slice_get es c.loop-place.place) (sym entries) ∙ sym c.get_index.ensures.entry ∙ ap (option_map deref_pair) c.unwrap.ensures in
    record {
      taps = taps_next c.args.circuit.now.solves c.solves-solves.result c.args.circuit.now.elements c.loop-place.place
          _ _ _ c.args.before.now.taps c.as_slice.result.now here c.solves-solves.ensures c.as_slice.ensures
          c.in_ok-add_taps.ensures
          ∙ c.loop-place.invariant.taps;
      closed = states_next c.args.circuit.now.solves c.solves-solves.result c.args.circuit.now.elements
          c.loop-place.place _ _ _ c.args.before.now.closed c.as_slice-in-loop-place.result.now
          here c.solves-solves.ensures c.as_slice-in-loop-place.ensures c.in_ok-add_state.ensures
          ∙ c.loop-place.invariant.closed;
    }

pub returns-clause-taps : goal.returns-clause-taps
returns-clause-taps c =
    let entries = c.as_slice-entries.ensures.entries ∙ c.elements.ensures.entries in
    let past = subst (λ n. n ≤ c.loop-place.place) (c.len-place-end.ensures ∙ ap length entries) c.loop-place-test.false in
    c.new.ensures
    ∙ next_done (next_taps_of c.args.circuit.now.solves) tap_count c.args.circuit.now.elements c.loop-place.place
    _ _ _ past c.loop-place.invariant.taps

pub returns-clause-closed : goal.returns-clause-closed
returns-clause-closed c =
    let entries = c.as_slice-entries.ensures.entries ∙ c.elements.ensures.entries in
    let past = subst (λ n. n ≤ c.loop-place.place) (c.len-place-end.ensures ∙ ap length entries) c.loop-place-test.false in
    c.new-2.ensures
    ∙ next_done (next_closed_of c.args.circuit.now.solves) bank_count c.args.circuit.now.elements c.loop-place.place
    _ _ _ past c.loop-place.invariant.closed
