use Rattle.fd_daily.specs.Day.{hours_left}
use Rattle.fd_daily.specs.Hours.{hours_of}
use Rattle.fd_daily.specs.fd_sample.Probes.{positions_in}
use Rattle.fd_daily.specs.Underway.{machine_in}
use Rattle.fd_solving.specs.Answered.{kept_in}
use Rattle.fd_solving.specs.Solving.{IsHoursStep, IsSolutionStep, kept_first}
use Rattle.fd_solving.specs.Steps.{standing}
use Rattle.fd_solving.proofs.Handed.{ends_as, ends_without_memory, tallied_as}
use Rattle.fd_solving.proofs.Hourly.{first_step, solution_step, way_range, way_start}
use Rattle.fd_solving.proofs.Tests.{one_solution}
use Rattle.fd_solving.proofs.Weaker.{if_some_weaker}
use Rattle.fd_solving.proofs.hours.solve_hours.Goals as goal

pub returns-in-Ok-clause-goes : goal.returns-in-Ok-clause-goes
returns-in-Ok-clause-goes g c none =
    let circuit = c.args.circuit.now in
    let before = positions_in c.args.at.now in
    let settled = c.args.settled.now in
    let first = c.in-Ok.ensures in
    let day = c.in-Ok.underway.day in
    let at = c.start.new.at in
    let n = c.run_hours.new in
    tallied_as g.P.Page.style g.S.Sink.taken g.S.Sink.calls
    (IsHoursStep circuit (hours_left day) (kept_in (machine_in at c.in-Ok.underway) settled))
    (IsSolutionStep (standing circuit before settled))
    (solution_step circuit before settled (machine_in at c.in-Ok.underway) at day first.start first.machine first.left)
    (standing circuit (positions_in n.at) n.settled) c.args.out.now n.out c.args.begun.now n.begun c.args.tally.now
    n.tally (c.run_hours.ensures.goes none)

pub returns-in-Ok-clause-ends : goal.returns-in-Ok-clause-ends
returns-in-Ok-clause-ends g c =
    let circuit = c.args.circuit.now in
    let before = positions_in c.args.at.now in
    let settled = c.args.settled.now in
    let first = c.in-Ok.ensures in
    let day = c.in-Ok.underway.day in
    let at = c.start.new.at in
    if_some_weaker c.run_hours.result _ _ (λ code ends.
    ends_as g.P.Page.style g.S.Sink.taken g.S.Sink.calls
    (IsHoursStep circuit (hours_left day) (kept_in (machine_in at c.in-Ok.underway) settled))
    (IsSolutionStep (standing circuit before settled))
    (solution_step circuit before settled
    (machine_in at c.in-Ok.underway) at day first.start first.machine first.left) c.args.out.now
    c.run_hours.new.out c.args.begun.now code ends)
    c.run_hours.ensures.ends

pub returns-in-Err-Range-clause-ends : goal.returns-in-Err-Range-clause-ends
returns-in-Err-Range-clause-ends g c =
    let s = standing c.args.circuit.now (positions_in c.args.at.now) c.args.settled.now in
    let hours = hours_of c.args.circuit.now.options in
    let told = rw c.in-Err-Range.field-0-is at c.in-Err-Range.ensures.refused in
    let way = way_start g.P.Page.style s.circuit hours
    (kept_first s) g.S.Sink.taken g.S.Sink.calls c.args.out.now c.args.begun.now c.args.tally.now in
    ends_as g.P.Page.style g.S.Sink.taken g.S.Sink.calls (IsHoursStep s.circuit hours (kept_first s))
    (IsSolutionStep s) (first_step s) c.args.out.now c.print_range.new.out c.args.begun.now c.print_range.result
    (way_range g.P.Page.style s.circuit hours (kept_first s) g.S.Sink.taken g.S.Sink.calls c.args.out.now
    c.args.begun.now c.args.tally.now c.law.ensures.silent c.law.ensures.unshown hours (kept_first s) c.args.out.now
    c.args.begun.now c.args.tally.now way c.in-Err-Range.blame told
    c.print_range.new.out c.print_range.result c.print_range.ensures.prints)

pub returns-in-Err-NoMemory-clause-ends : goal.returns-in-Err-NoMemory-clause-ends
returns-in-Err-NoMemory-clause-ends g c =
    let s = standing c.args.circuit.now (positions_in c.args.at.now) c.args.settled.now in
    ends_without_memory g.P.Page.style
    (IsSolutionStep s) g.S.Sink.taken g.S.Sink.calls c.args.out.now c.args.begun.now (one_solution s)
