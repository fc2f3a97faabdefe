use Rattle.std.proofs.Common.{[], subst}
use Rattle.fd_solving.specs.fd_outcome.Calls.{report}
use Rattle.fd_solving.specs.fd_outcome.Work.{ends, goes}
use Rattle.fd_checking.specs.Checks.{IsCheckStep, gathered}
use Rattle.fd_checking.specs.Gathered.{solved_by}
use Rattle.fd_solving.proofs.CallerLemmas.{ends_refused, ends_without_memory, goes_silent}
use Rattle.fd_checking.proofs.Gathering.{one_check_step}
use Rattle.fd_checking.proofs.checking.GatheredLine.take.Goals as goal

pub returns-in-Ok-None-clause-goes : goal.returns-in-Ok-None-clause-goes
returns-in-Ok-None-clause-goes g c none =
    let now = gathered c.follow.new.circuit (solved_by c.follow.new.commands.items) c.self.inside.certificate in
    let told = rw c.in-Ok-None.field-0-is at c.in-Ok-None.ensures in
    let right = subst (λ s. IsCheckStep c.args.command s (goes [] now)) c.self.view_is (told.step c.self.inside.certificate) in
    goes_silent report (IsCheckStep c.args.command c.args.self.now) g.S.Sink.taken g.S.Sink.calls now c.args.out.now c.args._begun.now right

pub returns-in-Ok-Some-clause-ends : goal.returns-in-Ok-Some-clause-ends
returns-in-Ok-Some-clause-ends g c =
    let told = rw c.in-Ok-Some.field-0-is at c.in-Ok-Some.ensures in
    let right = subst (λ s. IsCheckStep c.args.command s (ends [] c.in-Ok-Some.fault)) c.self.view_is (told.step c.self.inside.certificate) in
    ends_refused report (IsCheckStep c.args.command c.args.self.now) g.S.Sink.taken g.S.Sink.calls c.args.out.now
    c.print_fault.new.out c.args._begun.now c.in-Ok-Some.fault c.print_fault.result right c.print_fault.ensures.prints

pub returns-in-Err-clause-ends : goal.returns-in-Err-clause-ends
returns-in-Err-clause-ends g c =
    ends_without_memory report (IsCheckStep c.args.command c.args.self.now) g.S.Sink.taken g.S.Sink.calls
    c.args.out.now c.args._begun.now (one_check_step c.args.command c.args.self.now)
