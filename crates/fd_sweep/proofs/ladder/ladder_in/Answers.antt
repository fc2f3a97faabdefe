use Rattle.std.proofs.Common.{◌≡◌, ◌∙◌, ◌∷◌, length, replicate, false, ap, arith}
use Rattle.fd_network.specs.dss_layout.Layout.{LayoutView, layout_of}
use Rattle.fd_ladder.specs.Radial.{order_of}
use Rattle.fd_ladder.proofs.CallerLemmas.{few_taken}
use Rattle.fd_sweep.specs.Ladders.{shunts_from, taps_from}
use Rattle.fd_sweep.proofs.Laddered.{is_ladder}
use Rattle.fd_sweep.proofs.ladder.ladder_in.Goals as goal

pub returns-clause-value : goal.returns-clause-value
returns-clause-value c =
    let circuit = c.args.circuit.now in
    let nodes = c.nodes.ensures ∙ ap (λ (l : LayoutView). l.nodes) (c.layout.ensures ∙ c.requires.built.layout) in
    is_ladder circuit c.args.at.now (record { rungs = c.push_rungs.new.rungs; shunts = c.in_ok-shunts_in.field-0 }) _ _ _ _
    c.new-rungs.ensures.items
    (c.deref.ensures.value ∙ c.in_ok-taps.ensures
    ∙ ap (taps_from c.elements.result.now.entries) c.as_slice.ensures
    ∙ ap (λ es. taps_from es c.args.at.now.taps) c.elements.ensures.entries)
    (c.deref_mut.ensures.value ∙ c.in_ok-reached.ensures.items_if_clones_equal (λ y h. h) ∙ ap (λ ns. replicate (length ns) false) nodes)
    (c.deref-2.ensures.value ∙ c.in_ok-numbers.ensures ∙ ap (λ numbers. 0 ∷ numbers) c.requires.order)
    c.in_ok-push_rungs.ensures.value
    (c.in_ok-shunts_in.ensures.value ∙ ap (shunts_from (layout_of circuit.elements) circuit.options.defaultbasefrequency 0 circuit.elements) c.as_slice-2.ensures)

pub returns-clause-small : goal.returns-clause-small
returns-clause-small c =
    let ordered : c.deref-2.result.now ≡ 0 ∷ order_of c.args.circuit.now.elements =
    c.deref-2.ensures.value ∙ c.in_ok-numbers.ensures ∙ ap (λ numbers. 0 ∷ numbers) c.requires.order in
    record {
      rungs = record {
        few = omega (
          arith,
          c.in_ok-push_rungs.ensures.few,
          c.new-rungs.ensures.len,
          ap length c.new-rungs.ensures.items,
          ap length ordered,
          few_taken c.args.circuit.now.elements,
          c.elements.ensures.few,
        );
        each = c.in_ok-push_rungs.ensures.small;
      };
      shunts = record {
        few = omega (arith, c.in_ok-shunts_in.ensures.few, c.elements.ensures.few);
        each = c.in_ok-shunts_in.ensures.small;
      };
    }
