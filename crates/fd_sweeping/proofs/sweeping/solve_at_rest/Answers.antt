use Rattle.std.proofs.Common.{◌≡◌, ◌∙◌, ℕ, Option, Some, None, ap, refl, sym, subst, rules}
use Rattle.fd_solving.specs.dss_circuit.Circuit.{CircuitView}
use Rattle.fd_solving.specs.dss_model.InRange.{OptionsInRange}
use Rattle.fd_solving.specs.dss_ready.Ready.{HasPassed}
use Rattle.fd_solving.specs.fd_outcome.Calls.{report}
use Rattle.fd_solving.specs.fd_outcome.Parts.{EndsAt, GoesOn}
use Rattle.fd_solving.specs.fd_queue.Controls.{Positions}
use Rattle.fd_solving.specs.fd_sample.Probes.{positions_in}
use Rattle.fd_solving.specs.Solving.{IsSolutionStep}
use Rattle.fd_solving.specs.Steps.{StandingView, standing}
use Rattle.fd_solving.proofs.CallerLemmas.{ends_without_memory, if_some_weaker}
use Rattle.fd_sweeping.specs.Pages.{ladder_report}
use Rattle.fd_sweeping.specs.Sweeping.{IsSweptSolve, at_rest}
use Rattle.fd_sweeping.proofs.Only.{one_swept}
use Rattle.fd_sweeping.proofs.Stepped.{at_rest_within, ends_swept, goes_swept, passed_at_rest, snapshot_is}
use Rattle.fd_sweeping.proofs.sweeping.solve_at_rest.Goals as goal

pub returns-in_default-clause-ends : goal.returns-in_default-clause-ends
returns-in_default-clause-ends g c =
    ends_without_memory report (IsSweptSolve c.args.circuit.now c.args.settled.now) g.S.Sink.taken g.S.Sink.calls
    c.args.out.now c.args.begun.now (one_swept c.args.circuit.now c.args.settled.now)

pub returns-in_default-at_rest-clause-ends : goal.returns-in_default-at_rest-clause-ends
returns-in_default-at_rest-clause-ends g c =
    ends_without_memory report (IsSweptSolve c.args.circuit.now c.args.settled.now) g.S.Sink.taken g.S.Sink.calls
    c.args.out.now c.args.begun.now (one_swept c.args.circuit.now c.args.settled.now)

pub set_options-requires : goal.set_options-requires
set_options-requires g c =
    let kept = c.in-Ok.ensures ∙ c.options.ensures.value in
    subst OptionsInRange (sym (c.in-Ok-at_rest.ensures ∙ ap at_rest kept))
    (at_rest_within c.args.circuit.now.options c.options.ensures.in_range)

pub solve_hours-ended-requires-clause-ready : goal.solve_hours-ended-requires-clause-ready
solve_hours-ended-requires-clause-ready g c =
    let circuit = c.args.circuit.now in
    let there = snapshot_is circuit c.set_options.new.self c.in-Ok.kept c.in-Ok-at_rest.resting
    (c.in-Ok.ensures ∙ c.options.ensures.value) c.in-Ok-at_rest.ensures c.set_options.ensures in
    subst HasPassed (sym there) (passed_at_rest circuit c.requires.ready)

pub returns-clause-goes : goal.returns-clause-goes
returns-clause-goes g c none =
    let circuit = c.args.circuit.now in
    let n = c.args.settled.now in
    let there = snapshot_is circuit c.set_options.new.self c.in-Ok.kept c.in-Ok-at_rest.resting
    (c.in-Ok.ensures ∙ c.options.ensures.value) c.in-Ok-at_rest.ensures c.set_options.ensures in
    let out = c.solve_hours-ended.new.out in
    let left =
    standing c.set_options.new.self (positions_in c.solve_hours-ended.new.at) c.solve_hours-ended.new.settled in
    goes_swept g.S.Sink.taken g.S.Sink.calls c.args.out.now out c.args.begun.now circuit n
    c.solve_hours-ended.new.begun left
    (subst
    (λ (s : StandingView). GoesOn ladder_report
    (IsSolutionStep s) left g.S.Sink.taken g.S.Sink.calls c.args.out.now out
    c.args.begun.now c.solve_hours-ended.new.begun) (λ i. standing (there i) (c.no_positions-at.ensures.none i) n)
    (c.solve_hours-ended.ensures.goes none).on)

pub returns-clause-ends : goal.returns-clause-ends
returns-clause-ends g c =
    let circuit = c.args.circuit.now in
    let n = c.args.settled.now in
    let there = snapshot_is circuit c.set_options.new.self c.in-Ok.kept c.in-Ok-at_rest.resting
    (c.in-Ok.ensures ∙ c.options.ensures.value) c.in-Ok-at_rest.ensures c.set_options.ensures in
    let out = c.solve_hours-ended.new.out in
    if_some_weaker c.solve_hours-ended.result _ _ (λ code h.
    ends_swept g.S.Sink.taken g.S.Sink.calls c.args.out.now out c.args.begun.now circuit n code
    (subst
    (λ (s : StandingView). EndsAt ladder_report (IsSolutionStep s) g.S.Sink.taken g.S.Sink.calls c.args.out.now out
    c.args.begun.now code) (λ i. standing (there i) (c.no_positions-at.ensures.none i) n) h))
    c.solve_hours-ended.ensures.ends
