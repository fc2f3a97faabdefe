use Rattle.std.proofs.Common.{inr, refl, subst}
use Rattle.fd_solving.specs.fd_outcome.Parts.{EndsAt, GoesOn}
use Rattle.fd_solving.specs.fd_queue.Controls.{Positions}
use Rattle.fd_solving.specs.fd_sample.Probes.{positions_in}
use Rattle.fd_solving.specs.Solving.{IsSolutionStep}
use Rattle.fd_solving.specs.Steps.{standing}
use Rattle.fd_solving.proofs.CallerLemmas.fd_outcome.{command_answers}
use Rattle.fd_shorting.specs.Pages.{short_report}
use Rattle.fd_shorting.proofs.Solved.{printed_ill, printed_well}
use Rattle.fd_shorting.proofs.shorting.solve_once.Goals as goal

pub returns-in-Some-clause-prints : goal.returns-in-Some-clause-prints
returns-in-Some-clause-prints g c =
    let circuit = c.args.circuit.now in
    let out = c.solve_hours-ended.new.out in
    printed_ill g.S.Sink.taken g.S.Sink.calls c.args.out.now out c.args.begun circuit c.in-Some.status
    (subst
    (λ (at : Positions). EndsAt short_report (IsSolutionStep (standing circuit at 0)) g.S.Sink.taken g.S.Sink.calls
    c.args.out.now out c.args.begun c.in-Some.status) c.no_positions-at.ensures.none c.in-Some.ensures.ends)

pub returns-in-Some-clause-answers : goal.returns-in-Some-clause-answers
returns-in-Some-clause-answers g c =
    inr
    (command_answers g.S.Sink.taken g.S.Sink.calls short_report _ c.args.out.now c.solve_hours-ended.new.out
    c.args.begun
    c.in-Some.status c.in-Some.ensures.ends)

pub returns-clause-prints : goal.returns-clause-prints
returns-clause-prints g c =
    let circuit = c.args.circuit.now in
    let out = c.solve_hours-ended.new.out in
    let left = standing circuit (positions_in c.solve_hours-ended.new.at) c.solve_hours-ended.new.settled in
    printed_well g.S.Sink.taken g.S.Sink.calls c.args.out.now out c.args.begun circuit c.solve_hours-ended.new.begun
    left
    (subst (λ (at : Positions). GoesOn short_report (IsSolutionStep (standing circuit at 0)) left g.S.Sink.taken
    g.S.Sink.calls c.args.out.now out c.args.begun c.solve_hours-ended.new.begun) c.no_positions-at.ensures.none
    (c.in-None.ensures.goes refl).on)
