use Rattle.std.proofs.Common.{[], arith, subst}
use Rattle.fd_pages.specs.fd_outcome.Work.{ends, goes as goes_step}
use Rattle.fd_daily.specs.fd_sample.Probes.{positions_in}
use Rattle.fd_pages.specs.fd_bases.Bases.{bases_of}
use Rattle.fd_pages.specs.Bases.{base_events}
use Rattle.fd_solving.specs.Commands.{IsStep, tried}
use Rattle.fd_solving.specs.Solving.{IsSolutionStep}
use Rattle.fd_solving.specs.Steps.{changes, standing}
use Rattle.fd_solving.specs.declared.answer.Answer.TheVariants as answer
use Rattle.fd_solving.proofs.Handed.{answer_of, bases_tally, cut_never, ends_as, ends_cut, ends_refused}
use Rattle.fd_solving.proofs.Handed.{ends_without_memory, goes_changed, goes_printed, never_read, never_usage}
use Rattle.fd_solving.proofs.Handed.{tallied_as}
use Rattle.fd_solving.proofs.Tests.{one_step}
use Rattle.fd_solving.proofs.Weaker.{if_some_weaker, none_goes}
use Rattle.fd_solving.proofs.Weights.{command_takes}
use Rattle.fd_solving.proofs.solving.take_command.Goals as goal

pub returns-in-Ok-Done-clause-goes : goal.returns-in-Ok-Done-clause-goes
returns-in-Ok-Done-clause-goes g c none =
    let at = positions_in c.standing.inside.at in
    let now = standing c.answer_to.new.circuit at c.standing.inside.settled in
    let told = answer_of (tried c.args.command.now c.standing.inside.circuit) c.answer_to.new.circuit answer.Done
    (rw c.in-Ok-Done.field-0-is at c.in-Ok-Done.ensures.left) in
    let right =
    subst (λ s. IsStep c.args.command.now s (changes now)) c.standing.view_is (told at c.standing.inside.settled) in
    goes_changed g.P.Page.style (IsStep c.args.command.now c.args.standing.now) g.S.Sink.taken g.S.Sink.calls now
    c.args.out.now c.args.begun.now c.args.tally.now right

pub returns-in-Ok-Done-clause-weight : goal.returns-in-Ok-Done-clause-weight
returns-in-Ok-Done-clause-weight g c none =
    let at = positions_in c.standing.inside.at in
    let now = standing c.answer_to.new.circuit at c.standing.inside.settled in
    let told = answer_of (tried c.args.command.now c.standing.inside.circuit) c.answer_to.new.circuit answer.Done
    (rw c.in-Ok-Done.field-0-is at c.in-Ok-Done.ensures.left) in
    let right =
    subst (λ s. IsStep c.args.command.now s (changes now)) c.standing.view_is (told at c.standing.inside.settled) in
    command_takes c.args.command.now c.args.standing.now now [] right

pub returns-in-Ok-Refuses-clause-ends : goal.returns-in-Ok-Refuses-clause-ends
returns-in-Ok-Refuses-clause-ends g c =
    let told = answer_of (tried c.args.command.now c.standing.inside.circuit) c.answer_to.new.circuit
    (answer.Refuses c.in-Ok-Refuses.fault) (rw c.in-Ok-Refuses.field-0-is at c.in-Ok-Refuses.ensures.left) in
    let is = told (positions_in c.standing.inside.at) c.standing.inside.settled in
    let right = subst (λ s. IsStep c.args.command.now s (ends [] c.in-Ok-Refuses.fault)) c.standing.view_is is.0 in
    ends_refused g.P.Page.style (IsStep c.args.command.now c.args.standing.now) g.S.Sink.taken g.S.Sink.calls
    c.args.out.now c.print_fault.new.out c.args.begun.now c.in-Ok-Refuses.fault c.print_fault.result right
    c.print_fault.ensures.prints

pub returns-in-Ok-Refuses-clause-usage : goal.returns-in-Ok-Refuses-clause-usage
returns-in-Ok-Refuses-clause-usage g c =
    let told = answer_of (tried c.args.command.now c.standing.inside.circuit) c.answer_to.new.circuit
    (answer.Refuses c.in-Ok-Refuses.fault) (rw c.in-Ok-Refuses.field-0-is at c.in-Ok-Refuses.ensures.left) in
    let is = told (positions_in c.standing.inside.at) c.standing.inside.settled in
    never_usage g.S.Sink.taken g.S.Sink.calls c.args.out.now c.print_fault.new.out _ c.in-Ok-Refuses.fault
    c.print_fault.result is.1 c.print_fault.ensures.prints

pub returns-in-Ok-Refuses-clause-read : goal.returns-in-Ok-Refuses-clause-read
returns-in-Ok-Refuses-clause-read g c =
    let told = answer_of (tried c.args.command.now c.standing.inside.circuit) c.answer_to.new.circuit
    (answer.Refuses c.in-Ok-Refuses.fault) (rw c.in-Ok-Refuses.field-0-is at c.in-Ok-Refuses.ensures.left) in
    let is = told (positions_in c.standing.inside.at) c.standing.inside.settled in
    never_read g.S.Sink.taken g.S.Sink.calls c.args.out.now c.print_fault.new.out _ c.in-Ok-Refuses.fault
    c.print_fault.result is.1 c.print_fault.ensures.prints

pub returns-in-Ok-Bases-clause-goes : goal.returns-in-Ok-Bases-clause-goes
returns-in-Ok-Bases-clause-goes g c none =
    let at = positions_in c.standing.inside.at in
    let n = c.standing.inside.settled in
    let circuit = c.answer_to.new.circuit in
    let now = standing circuit at n in
    let told = answer_of (tried c.args.command.now c.standing.inside.circuit) c.answer_to.new.circuit answer.Bases
    (rw c.in-Ok-Bases.field-0-is at c.in-Ok-Bases.ensures.left) in
    let right =
    subst (λ s. IsStep c.args.command.now s (goes_step (base_events circuit) now)) c.standing.view_is (told at n) in
    goes_printed g.P.Page.style (IsStep c.args.command.now c.args.standing.now) g.S.Sink.taken g.S.Sink.calls now
    (base_events circuit) right c.args.out.now c.print_bases.new.out c.args.begun.now
    c.print_bases.new.begun (none_goes c.print_bases.result _ none c.print_bases.ensures.goes)
    (c.print_bases.ensures.begun none) c.args.tally.now (bases_tally c.args.tally.now (bases_of circuit))

pub returns-in-Ok-Bases-clause-ends : goal.returns-in-Ok-Bases-clause-ends
returns-in-Ok-Bases-clause-ends g c =
    let at = positions_in c.standing.inside.at in
    let n = c.standing.inside.settled in
    let circuit = c.answer_to.new.circuit in
    let now = standing circuit at n in
    let told = answer_of (tried c.args.command.now c.standing.inside.circuit) c.answer_to.new.circuit answer.Bases
    (rw c.in-Ok-Bases.field-0-is at c.in-Ok-Bases.ensures.left) in
    let right =
    subst (λ s. IsStep c.args.command.now s (goes_step (base_events circuit) now)) c.standing.view_is (told at n) in
    if_some_weaker c.print_bases.result _ _ (λ code cut.
    ends_cut g.P.Page.style (IsStep c.args.command.now c.args.standing.now) g.S.Sink.taken g.S.Sink.calls now
    (base_events circuit) right c.args.out.now c.print_bases.new.out c.args.begun.now
    code cut)
    c.print_bases.ensures.ends

pub returns-in-Ok-Bases-clause-weight : goal.returns-in-Ok-Bases-clause-weight
returns-in-Ok-Bases-clause-weight g c none =
    let at = positions_in c.standing.inside.at in
    let n = c.standing.inside.settled in
    let circuit = c.answer_to.new.circuit in
    let now = standing circuit at n in
    let told = answer_of (tried c.args.command.now c.standing.inside.circuit) c.answer_to.new.circuit answer.Bases
    (rw c.in-Ok-Bases.field-0-is at c.in-Ok-Bases.ensures.left) in
    let right =
    subst (λ s. IsStep c.args.command.now s (goes_step (base_events circuit) now)) c.standing.view_is (told at n) in
    command_takes c.args.command.now c.args.standing.now now (base_events circuit) right

pub returns-in-Ok-Bases-clause-usage : goal.returns-in-Ok-Bases-clause-usage
returns-in-Ok-Bases-clause-usage g c =
    if_some_weaker c.print_bases.result _ _ (λ code cut.
    cut_never g.S.Sink.taken g.S.Sink.calls 2 c.args.out.now c.print_bases.new.out _ code (λ e. omega (arith, e))
    (λ e. omega (arith, e)) cut)
    c.print_bases.ensures.ends

pub returns-in-Ok-Bases-clause-read : goal.returns-in-Ok-Bases-clause-read
returns-in-Ok-Bases-clause-read g c =
    if_some_weaker c.print_bases.result _ _ (λ code cut.
    cut_never g.S.Sink.taken g.S.Sink.calls 4 c.args.out.now c.print_bases.new.out _ code (λ e. omega (arith, e))
    (λ e. omega (arith, e)) cut)
    c.print_bases.ensures.ends

pub solve_hours-requires-clause-ready : goal.solve_hours-requires-clause-ready
solve_hours-requires-clause-ready g c =
    let told = answer_of (tried c.args.command.now c.standing.inside.circuit) c.answer_to.new.circuit answer.Solves
    (rw c.in-Ok-Solves.field-0-is at c.in-Ok-Solves.ensures.left) in
    (told (positions_in c.standing.inside.at) c.standing.inside.settled).0

pub returns-in-Ok-Solves-clause-goes : goal.returns-in-Ok-Solves-clause-goes
returns-in-Ok-Solves-clause-goes g c none =
    let at = positions_in c.standing.inside.at in
    let n = c.standing.inside.settled in
    let told = answer_of (tried c.args.command.now c.standing.inside.circuit) c.answer_to.new.circuit answer.Solves
    (rw c.in-Ok-Solves.field-0-is at c.in-Ok-Solves.ensures.left) in
    tallied_as g.P.Page.style g.S.Sink.taken g.S.Sink.calls (IsSolutionStep (standing c.answer_to.new.circuit at n))
    (IsStep c.args.command.now c.args.standing.now)
    (λ step h. subst (λ s. IsStep c.args.command.now s step) c.standing.view_is ((told at n).1 step h))
    (standing c.answer_to.new.circuit (positions_in c.solve_hours.new.at) c.solve_hours.new.settled) c.args.out.now
    c.solve_hours.new.out c.args.begun.now c.solve_hours.new.begun c.args.tally.now c.solve_hours.new.tally
    (c.solve_hours.ensures.goes none)

pub returns-in-Ok-Solves-clause-weight : goal.returns-in-Ok-Solves-clause-weight
returns-in-Ok-Solves-clause-weight g c none =
    let at = positions_in c.standing.inside.at in
    let n = c.standing.inside.settled in
    let told = answer_of (tried c.args.command.now c.standing.inside.circuit) c.answer_to.new.circuit answer.Solves
    (rw c.in-Ok-Solves.field-0-is at c.in-Ok-Solves.ensures.left) in
    let goes = (c.solve_hours.ensures.goes none).on in
    let now = standing c.answer_to.new.circuit (positions_in c.solve_hours.new.at) c.solve_hours.new.settled in
    let right = subst (λ s. IsStep c.args.command.now s (goes_step goes.events now)) c.standing.view_is
    ((told at n).1 (goes_step goes.events now) goes.right) in
    command_takes c.args.command.now c.args.standing.now now goes.events right

pub returns-in-Ok-Solves-clause-ends : goal.returns-in-Ok-Solves-clause-ends
returns-in-Ok-Solves-clause-ends g c =
    let at = positions_in c.standing.inside.at in
    let n = c.standing.inside.settled in
    let told = answer_of (tried c.args.command.now c.standing.inside.circuit) c.answer_to.new.circuit answer.Solves
    (rw c.in-Ok-Solves.field-0-is at c.in-Ok-Solves.ensures.left) in
    if_some_weaker c.solve_hours.result _ _ (λ code ended.
    ends_as g.P.Page.style g.S.Sink.taken g.S.Sink.calls (IsSolutionStep (standing c.answer_to.new.circuit at n))
    (IsStep c.args.command.now c.args.standing.now)
    (λ step h. subst (λ s. IsStep c.args.command.now s step) c.standing.view_is ((told at n).1 step h))
    c.args.out.now c.solve_hours.new.out c.args.begun.now code ended)
    c.solve_hours.ensures.ends

pub returns-in-Err-clause-ends : goal.returns-in-Err-clause-ends
returns-in-Err-clause-ends g c =
    ends_without_memory g.P.Page.style (IsStep c.args.command.now c.args.standing.now) g.S.Sink.taken g.S.Sink.calls
    c.args.out.now c.args.begun.now (one_step c.args.command.now c.args.standing.now)

pub invariant_of-standing-in-Err : goal.invariant_of-standing-in-Err
invariant_of-standing-in-Err g c =
    let before = c.standing.invariant.1 in
    let kept = c.answer_to.ensures.kept in
    (c.standing.invariant.0, omega (arith, before, kept))
