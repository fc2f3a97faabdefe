use Rattle.std.proofs.Common.{◌≡◌, ◌∙◌, ap, subst, sym}
use Rattle.std.specs.Prelude.{IfOk}
use Rattle.fd_network.specs.dss_layout.Layout.{ends_of, layout_of}
use Rattle.fd_network.specs.fd_devices.Data.{xfmr_data_of}
use Rattle.fd_series.specs.Scripted.{scripted_source}
use Rattle.fd_series.specs.fd_rungs.Elements.{transformer_branches}
use Rattle.fd_sweep.specs.Ladders.{branches_of}
use Rattle.fd_sweep.proofs.ladder.branches_of.Goals as goal

pub returns-in_ok-at-in-Vsource-clause-value : goal.returns-in_ok-at-in-Vsource-clause-value
returns-in_ok-at-in-Vsource-clause-value c =
    let circuit = c.args.circuit.now in
    let layout = layout_of circuit.elements in
    let at = c.in_ok-at-in-Vsource.ensures ∙ ap (ends_of layout c.args.place) c.in-Vsource.is in
    subst (λ e. IfOk c.scripted_source.result (λ rung. rung.branches.items
    ≡ branches_of layout circuit.options.defaultbasefrequency c.args.place e c.args.taps c.args.reached.now)) (sym c.in-Vsource.is)
    (subst (λ a. IfOk c.scripted_source.result (λ rung. rung.branches.items ≡ scripted_source c.in-Vsource.source a)) at
    c.scripted_source.ensures.value)

pub returns-in_ok-at-in-Transformer-clause-value : goal.returns-in_ok-at-in-Transformer-clause-value
returns-in_ok-at-in-Transformer-clause-value c =
    let circuit = c.args.circuit.now in
    let layout = layout_of circuit.elements in
    let at = c.in_ok-at-in-Transformer.ensures ∙ ap (ends_of layout c.args.place) c.in-Transformer.is in
    subst (λ e. IfOk c.transformer_rung.result (λ rung. rung.branches.items
    ≡ branches_of layout circuit.options.defaultbasefrequency c.args.place e c.args.taps c.args.reached.now)) (sym c.in-Transformer.is)
    (subst (λ a. IfOk c.transformer_rung.result (λ rung. rung.branches.items ≡ transformer_branches (xfmr_data_of c.in-Transformer.xfmr) c.args.taps a)) at
    (subst (λ d. IfOk c.transformer_rung.result (λ rung. rung.branches.items ≡ transformer_branches d c.args.taps c.in_ok-at-in-Transformer.at)) c.xfmr_data.ensures.value
    c.transformer_rung.ensures.value))
