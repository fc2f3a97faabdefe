use Rattle.std.proofs.Common.{◌≤◌, ◌+◌, [], subst, sym, arith}
use Rattle.fd_solving.specs.fd_outcome.Calls.{report}
use Rattle.fd_solving.specs.dss_script.Sessions.{cost}
use Rattle.fd_solving.specs.fd_outcome.Work.{ends, goes}
use Rattle.fd_solving.specs.Weights.{weight}
use Rattle.fd_solving.proofs.CallerLemmas.{ends_refused, ends_without_memory, goes_silent, verb_takes}
use Rattle.fd_shorting.specs.Shorting.{IsShortingStep, ShortingView, shorting}
use Rattle.fd_shorting.proofs.Only.{one_short_step, refused_step, taken_step}
use Rattle.fd_shorting.proofs.shorting.ShortingLine.take.Goals as goal

pub returns-in-Ok-None-clause-goes : goal.returns-in-Ok-None-clause-goes
returns-in-Ok-None-clause-goes g c none =
    let s = shorting c.self.inside.circuit c.self.inside.master c.self.inside.bus c.self.inside.kind in
    let now = shorting c.follow.new.circuit c.self.inside.master c.self.inside.bus c.self.inside.kind in
    let told = rw c.in-Ok-None.field-0-is at c.in-Ok-None.ensures.followed in
    let right = subst (λ (v : ShortingView). IsShortingStep c.args.command v (goes [] now)) c.self.view_is
    (taken_step c.args.command s c.follow.new.circuit told) in
    goes_silent report (IsShortingStep c.args.command c.args.self.now) g.S.Sink.taken g.S.Sink.calls now c.args.out.now
    c.args._begun.now right

pub returns-in-Ok-None-clause-room : goal.returns-in-Ok-None-clause-room
returns-in-Ok-None-clause-room g c none =
    let told = rw c.in-Ok-None.field-0-is at c.in-Ok-None.ensures.followed in
    subst
    (λ (v : ShortingView). weight c.follow.new.circuit ≤ weight v.circuit + cost c.args.command.verb) c.self.view_is
    (verb_takes c.args.command.place c.args.command.verb c.self.inside.circuit c.follow.new.circuit told).room

pub returns-in-Ok-Some-clause-ends : goal.returns-in-Ok-Some-clause-ends
returns-in-Ok-Some-clause-ends g c =
    let s = shorting c.self.inside.circuit c.self.inside.master c.self.inside.bus c.self.inside.kind in
    let told = rw c.in-Ok-Some.field-0-is at c.in-Ok-Some.ensures.followed in
    let is = subst (λ f. IsShortingStep c.args.command s (ends [] f)) (sym told.fault_is)
    (refused_step c.args.command s told.why told.refuses) in
    let right =
    subst (λ (v : ShortingView). IsShortingStep c.args.command v (ends [] c.in-Ok-Some.fault)) c.self.view_is is in
    ends_refused report (IsShortingStep c.args.command c.args.self.now) g.S.Sink.taken g.S.Sink.calls c.args.out.now
    c.print_fault.new.out c.args._begun.now c.in-Ok-Some.fault c.print_fault.result right c.print_fault.ensures.prints

pub returns-clause-ends : goal.returns-clause-ends
returns-clause-ends g c =
    ends_without_memory report (IsShortingStep c.args.command c.args.self.now) g.S.Sink.taken g.S.Sink.calls
    c.args.out.now c.args._begun.now (one_short_step c.args.command c.args.self.now)

-- what a command takes is within what a script has room for
pub invariant_of-self : goal.invariant_of-self
invariant_of-self g c =
    let told = rw c.in-Ok-None.field-0-is at c.in-Ok-None.ensures.followed in
    let takes =
    (verb_takes c.args.command.place c.args.command.verb c.self.inside.circuit c.follow.new.circuit told).room in
    let room =
    subst (λ (v : ShortingView). weight v.circuit + cost c.args.command.verb ≤ 1_048_578)
    (sym c.self.view_is) c.requires in
    omega (arith, takes, room)
