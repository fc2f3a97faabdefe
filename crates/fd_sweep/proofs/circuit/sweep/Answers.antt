use Rattle.std.proofs.Common.{◌≡◌, ◌∙◌, ◌*◌, length, Ok, ap, sym, arith}
use Rattle.std.proofs.lemmas.Result.{err_from_is_err_and}
use Rattle.fd_network.specs.dss_layout.Layout.{LayoutView}
use Rattle.fd_network.proofs.CallerLemmas.dss_layout.{few_complex}
use Rattle.fd_network.specs.fd_pattern.Views.{NetworkView}
use Rattle.fd_ladder.specs.Radial.{first_offending, order_of}
use Rattle.fd_series.specs.fd_rungs.Sweeps.{sweeps_of}
use Rattle.fd_sweep.specs.Ladders.{ladder_of}
use Rattle.fd_sweep.specs.Sweep.{sweep_of}
use Rattle.fd_sweep.proofs.Ends.{is_swept, not_swept, same_order}
use Rattle.fd_sweep.proofs.Tapping.{all_tapped}
use Rattle.fd_sweep.proofs.circuit.sweep.Goals as goal

pub returns-in_err-order : goal.returns-in_err-order
returns-in_err-order c =
    let elements = c.args.circuit.now.elements in
    let p = err_from_is_err_and c.from_residual.result c.from_residual.ensures.1 in
    let swept = sweep_of c.args.circuit.now c.args.at.now c.args.net.now.rows c.args.max_iterations in
    rw (p.1, p.2) (not_swept (first_offending elements) (order_of elements) swept c.in_err-order.field-0.0 c.in_err-order.ensures)

pub ladder_in-requires-clause-taps : goal.ladder_in-requires-clause-taps
ladder_in-requires-clause-taps c =
    all_tapped c.args.circuit.now.elements c.args.at.now.taps
    (ap length (sym c.requires.at.taps) ∙ c.requires.built.settings.taps) c.requires.within

pub ladder_in-requires-clause-order : goal.ladder_in-requires-clause-order
ladder_in-requires-clause-order c =
    let elements = c.args.circuit.now.elements in
    c.deref.ensures.value ∙ same_order (first_offending elements) (order_of elements) _ c.in_ok-order.ensures

pub overflow_cast-nodes : goal.overflow_cast-nodes
overflow_cast-nodes c =
    let elements = c.args.circuit.now.elements in
    let nodes = c.nodes.ensures ∙ ap (λ (l : LayoutView). l.nodes) (c.layout.ensures ∙ c.requires.built.layout) in
    omega (arith, ap length nodes, few_complex elements c.requires.ready.not_many)

pub returns : goal.returns
returns c =
    let circuit = c.args.circuit.now in
    let rows = c.args.net.now.rows in
    let most = 10 * c.args.max_iterations in
    let nodes : length c.nodes.result.now ≡ rows.nodes =
    ap length (c.nodes.ensures ∙ ap (λ (l : LayoutView). l.nodes) c.layout.ensures)
    ∙ ap (λ (v : NetworkView). v.nodes) (sym c.size.ensures.valid.rows) in
    let swept : c.in_ok-sweeps.field-0 ≡ sweep_of circuit c.args.at.now rows c.args.max_iterations =
    c.in_ok-sweeps.ensures
    ∙ ap (λ l. sweeps_of l c.loads.result.now (length c.nodes.result.now) c.size.result most) c.in_ok-ladder.ensures.value
    ∙ ap (λ us. sweeps_of (ladder_of circuit c.args.at.now) us (length c.nodes.result.now) c.size.result most)
    (c.loads.ensures ∙ ap (λ (v : NetworkView). v.stamp.loads) c.rows-rows.ensures)
    ∙ ap (λ n. sweeps_of (ladder_of circuit c.args.at.now) rows.stamp.loads n c.size.result most) nodes
    ∙ ap (λ n. sweeps_of (ladder_of circuit c.args.at.now) rows.stamp.loads rows.nodes n most) c.size.ensures.rows in
    is_swept (first_offending circuit.elements) (order_of circuit.elements) _ _ c.in_ok-order.ensures ∙ ap Ok (sym swept)
