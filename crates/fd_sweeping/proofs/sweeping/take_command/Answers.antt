use Rattle.std.proofs.Common.{◌+◌, ◌≤◌, [], arith, subst, sym}
use Rattle.fd_solving.specs.fd_outcome.Calls.{report}
use Rattle.fd_solving.specs.dss_circuit.Circuit.{CircuitView}
use Rattle.fd_solving.specs.fd_outcome.Work.{ends, goes}
use Rattle.fd_solving.specs.fd_pages.Bases.{base_events}
use Rattle.fd_sweep.specs.fd_ladder.Radial.{first_offending}
use Rattle.fd_solving.specs.Commands.{tried}
use Rattle.fd_solving.specs.Steps.{changes}
use Rattle.fd_solving.specs.Weights.{weight}
use Rattle.fd_solving.specs.dss_script.Sessions.{cost}
use Rattle.fd_solving.specs.declared.answer.Answer.TheVariants as answer
use Rattle.fd_solving.proofs.CallerLemmas.{cut_never, ends_as, ends_cut, ends_refused, ends_without_memory, goes_silent}
use Rattle.fd_solving.proofs.CallerLemmas.{if_some_weaker, never_read, never_usage, none_goes}
use Rattle.fd_sweeping.specs.Sweeping.{IsByOrder, IsSweepingStep, sweeping}
use Rattle.fd_sweeping.proofs.Answering.{swept_answer, swept_room}
use Rattle.fd_sweeping.proofs.Only.{one_sweeping}
use Rattle.fd_sweeping.proofs.sweeping.take_command.Goals as goal

pub returns-in-Ok-Done-clause-goes : goal.returns-in-Ok-Done-clause-goes
returns-in-Ok-Done-clause-goes g c none =
    let n = c.sweeping.inside.settled in
    let now = sweeping c.answer_to.new.circuit n in
    let told = swept_answer n (tried c.args.command.now c.sweeping.inside.circuit) c.answer_to.new.circuit answer.Done
    (rw c.in-Ok-Done.field-0-is at c.in-Ok-Done.ensures.left) in
    let right = subst (λ s. IsSweepingStep c.args.command.now s (changes now)) c.sweeping.view_is told in
    goes_silent report (IsSweepingStep c.args.command.now c.args.sweeping.now) g.S.Sink.taken g.S.Sink.calls now
    c.args.out.now c.args.begun.now right

pub returns-in-Ok-Refuses-clause-ends : goal.returns-in-Ok-Refuses-clause-ends
returns-in-Ok-Refuses-clause-ends g c =
    let told =
    swept_answer c.sweeping.inside.settled
    (tried c.args.command.now c.sweeping.inside.circuit) c.answer_to.new.circuit
    (answer.Refuses c.in-Ok-Refuses.fault) (rw c.in-Ok-Refuses.field-0-is at c.in-Ok-Refuses.ensures.left) in
    let right =
    subst (λ s. IsSweepingStep c.args.command.now s (ends [] c.in-Ok-Refuses.fault)) c.sweeping.view_is told.0 in
    ends_refused report (IsSweepingStep c.args.command.now c.args.sweeping.now) g.S.Sink.taken g.S.Sink.calls
    c.args.out.now c.print_fault.new.out c.args.begun.now c.in-Ok-Refuses.fault c.print_fault.result right
    c.print_fault.ensures.prints

pub returns-in-Ok-Refuses-clause-usage : goal.returns-in-Ok-Refuses-clause-usage
returns-in-Ok-Refuses-clause-usage g c =
    let told =
    swept_answer c.sweeping.inside.settled
    (tried c.args.command.now c.sweeping.inside.circuit) c.answer_to.new.circuit
    (answer.Refuses c.in-Ok-Refuses.fault) (rw c.in-Ok-Refuses.field-0-is at c.in-Ok-Refuses.ensures.left) in
    never_usage g.S.Sink.taken g.S.Sink.calls c.args.out.now c.print_fault.new.out _ c.in-Ok-Refuses.fault
    c.print_fault.result told.1 c.print_fault.ensures.prints

pub returns-in-Ok-Refuses-clause-read : goal.returns-in-Ok-Refuses-clause-read
returns-in-Ok-Refuses-clause-read g c =
    let told =
    swept_answer c.sweeping.inside.settled
    (tried c.args.command.now c.sweeping.inside.circuit) c.answer_to.new.circuit
    (answer.Refuses c.in-Ok-Refuses.fault) (rw c.in-Ok-Refuses.field-0-is at c.in-Ok-Refuses.ensures.left) in
    never_read g.S.Sink.taken g.S.Sink.calls c.args.out.now c.print_fault.new.out _ c.in-Ok-Refuses.fault
    c.print_fault.result told.1 c.print_fault.ensures.prints

pub returns-in-Ok-Bases-clause-goes : goal.returns-in-Ok-Bases-clause-goes
returns-in-Ok-Bases-clause-goes g c none =
    let n = c.sweeping.inside.settled in
    let circuit = c.answer_to.new.circuit in
    let now = sweeping circuit n in
    let told = swept_answer n (tried c.args.command.now c.sweeping.inside.circuit) circuit answer.Bases
    (rw c.in-Ok-Bases.field-0-is at c.in-Ok-Bases.ensures.left) in
    record {
      events = base_events circuit;
      right = subst (λ s. IsSweepingStep c.args.command.now s (goes (base_events circuit) now)) c.sweeping.view_is told;
      wrote = none_goes c.print_bases.result _ none c.print_bases.ensures.goes;
      begun_is = c.print_bases.ensures.begun none;
    }

pub returns-in-Ok-Bases-clause-ends : goal.returns-in-Ok-Bases-clause-ends
returns-in-Ok-Bases-clause-ends g c =
    let n = c.sweeping.inside.settled in
    let circuit = c.answer_to.new.circuit in
    let now = sweeping circuit n in
    let told = swept_answer n (tried c.args.command.now c.sweeping.inside.circuit) circuit answer.Bases
    (rw c.in-Ok-Bases.field-0-is at c.in-Ok-Bases.ensures.left) in
    let right =
    subst (λ s. IsSweepingStep c.args.command.now s (goes (base_events circuit) now)) c.sweeping.view_is told in
    if_some_weaker c.print_bases.result _ _ (λ code cut.
    ends_cut report (IsSweepingStep c.args.command.now c.args.sweeping.now) g.S.Sink.taken g.S.Sink.calls now
    (base_events circuit) right c.args.out.now c.print_bases.new.out c.args.begun.now code cut)
    c.print_bases.ensures.ends

pub returns-in-Ok-Bases-clause-usage : goal.returns-in-Ok-Bases-clause-usage
returns-in-Ok-Bases-clause-usage g c =
    if_some_weaker c.print_bases.result _ _ (λ code cut.
    cut_never g.S.Sink.taken g.S.Sink.calls 2 c.args.out.now c.print_bases.new.out _ code (λ e. omega (arith, e))
    (λ e. omega (arith, e)) cut)
    c.print_bases.ensures.ends

pub returns-in-Ok-Bases-clause-read : goal.returns-in-Ok-Bases-clause-read
returns-in-Ok-Bases-clause-read g c =
    if_some_weaker c.print_bases.result _ _ (λ code cut.
    cut_never g.S.Sink.taken g.S.Sink.calls 4 c.args.out.now c.print_bases.new.out _ code (λ e. omega (arith, e))
    (λ e. omega (arith, e)) cut)
    c.print_bases.ensures.ends

pub solve_radial-requires-clause-ready : goal.solve_radial-requires-clause-ready
solve_radial-requires-clause-ready g c =
    (swept_answer c.sweeping.inside.settled
    (tried c.args.command.now c.sweeping.inside.circuit) c.answer_to.new.circuit answer.Solves
    (rw c.in-Ok-Solves.field-0-is at c.in-Ok-Solves.ensures.left)).0

pub returns-in-Ok-Solves-clause-goes : goal.returns-in-Ok-Solves-clause-goes
returns-in-Ok-Solves-clause-goes g c none =
    let n = c.sweeping.inside.settled in
    let circuit = c.answer_to.new.circuit in
    let told = swept_answer n (tried c.args.command.now c.sweeping.inside.circuit) circuit answer.Solves
    (rw c.in-Ok-Solves.field-0-is at c.in-Ok-Solves.ensures.left) in
    let goes_on = c.solve_radial.ensures.goes none in
    let step = goes goes_on.events (sweeping circuit c.solve_radial.new.settled) in
    record {
      events = goes_on.events;
      right = subst (λ (k : CircuitView). IsSweepingStep c.args.command.now c.args.sweeping.now
          (goes goes_on.events (sweeping k c.solve_radial.new.settled))) (sym (c.solve_radial.ensures.same none))
          (subst (λ s. IsSweepingStep c.args.command.now s step) c.sweeping.view_is (told.1 step goes_on.right));
      wrote = goes_on.wrote;
      begun_is = goes_on.begun_is;
    }

pub returns-in-Ok-Solves-clause-ends : goal.returns-in-Ok-Solves-clause-ends
returns-in-Ok-Solves-clause-ends g c =
    let n = c.sweeping.inside.settled in
    let circuit = c.answer_to.new.circuit in
    let told = swept_answer n (tried c.args.command.now c.sweeping.inside.circuit) circuit answer.Solves
    (rw c.in-Ok-Solves.field-0-is at c.in-Ok-Solves.ensures.left) in
    if_some_weaker c.solve_radial.result _ _ (λ code ended.
    ends_as report g.S.Sink.taken g.S.Sink.calls (IsByOrder circuit n (first_offending circuit.elements))
    (IsSweepingStep c.args.command.now c.args.sweeping.now)
    (λ step h. subst (λ s. IsSweepingStep c.args.command.now s step) c.sweeping.view_is (told.1 step h))
    c.args.out.now c.solve_radial.new.out c.args.begun.now code ended)
    c.solve_radial.ensures.ends

pub returns-in-Err-clause-ends : goal.returns-in-Err-clause-ends
returns-in-Err-clause-ends g c =
    ends_without_memory report (IsSweepingStep c.args.command.now c.args.sweeping.now) g.S.Sink.taken g.S.Sink.calls
    c.args.out.now c.args.begun.now (one_sweeping c.args.command.now c.args.sweeping.now)

pub returns-in-Ok-Done-clause-room : goal.returns-in-Ok-Done-clause-room
returns-in-Ok-Done-clause-room g c none =
    let room = swept_room c.args.command.now c.sweeping.inside.circuit c.answer_to.new.circuit answer.Done
    (rw c.in-Ok-Done.field-0-is at c.in-Ok-Done.ensures.left) (λ f e. cc e) in
    subst
    (λ s. weight c.answer_to.new.circuit ≤ weight s.circuit + cost c.args.command.now.verb) c.sweeping.view_is room

pub returns-in-Ok-Bases-clause-room : goal.returns-in-Ok-Bases-clause-room
returns-in-Ok-Bases-clause-room g c none =
    let room = swept_room c.args.command.now c.sweeping.inside.circuit c.answer_to.new.circuit answer.Bases
    (rw c.in-Ok-Bases.field-0-is at c.in-Ok-Bases.ensures.left) (λ f e. cc e) in
    subst
    (λ s. weight c.answer_to.new.circuit ≤ weight s.circuit + cost c.args.command.now.verb) c.sweeping.view_is room

pub returns-in-Ok-Solves-clause-room : goal.returns-in-Ok-Solves-clause-room
returns-in-Ok-Solves-clause-room g c none =
    let room = swept_room c.args.command.now c.sweeping.inside.circuit c.answer_to.new.circuit answer.Solves
    (rw c.in-Ok-Solves.field-0-is at c.in-Ok-Solves.ensures.left) (λ f e. cc e) in
    subst (λ (k : CircuitView). weight k ≤ weight c.args.sweeping.now.circuit + cost c.args.command.now.verb)
    (sym (c.solve_radial.ensures.same none))
    (subst
    (λ s. weight c.answer_to.new.circuit ≤ weight s.circuit + cost c.args.command.now.verb) c.sweeping.view_is room)

pub invariant_of-sweeping-in-Err : goal.invariant_of-sweeping-in-Err
invariant_of-sweeping-in-Err g c =
    let before = c.sweeping.invariant in
    let kept = c.answer_to.ensures.kept in
    omega (arith, before, kept)
