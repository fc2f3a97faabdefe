use Rattle.std.proofs.Common.{◌≡◌, ◌∙◌, ◌+◌, ◌*◌, ◌≤◌, ◌<◌, ◌^◌, ℕ, ap, arith, subst, sym}
use Rattle.fd_daily.specs.Day.{MayBegin, begun_hour, hour_in}
use Rattle.fd_daily.specs.Hours.{time_of}
use Rattle.fd_daily.specs.Underway.{machine_in}
use Rattle.fd_daily.proofs.Behind.{begun_numbers, day_behind, left_behind, may_begin}
use Rattle.fd_daily.proofs.CallerLemmas.{hour_within}
use Rattle.fd_daily.proofs.Settles.{begun_there, settled_there}
use Rattle.fd_settle.specs.fd_queue.Machine.{Machine, hour_begun}
use Rattle.fd_settle.specs.fd_queue.declared.timing.Timing.{Timing}
use Rattle.fd_settle.specs.Contract.{limits_of}
use Rattle.fd_settle.specs.Controls.{AreAtWork, machine_of}
use Rattle.fd_settle.specs.Plant.{timing_of}
use Rattle.fd_daily.proofs.running.daily_run.Goals.{After-begin_hour}
use Rattle.fd_daily.proofs.running.daily_run.Goals as goal

-- ---- the hour begins

begun : (g : _) (c : After-begin_hour g) → machine_of c.args.at.now c.begin_hour.new.clock c.begin_hour.new.self
    ≡ begun_hour c.args.circuit.now c.args.underway.now.day (machine_in c.args.at.now c.args.underway.now)
begun g c =
    begun_there c.args.circuit.now c.args.underway.now.day (machine_in c.args.at.now c.args.underway.now) _ _ _ _
    (c.begin_hour.ensures.machine c.args.at.now) c.requires.underway.work.timing c.time_of.ensures c.hour-hour.ensures

work : (g : _) (c : After-begin_hour g)
    → AreAtWork c.args.circuit.now c.args.at.now c.begin_hour.new.clock c.begin_hour.new.self
work g c = c.begin_hour.ensures.work c.args.circuit.now c.args.at.now c.requires.underway.work

numbers : (g : _) (c : After-begin_hour g) → MayBegin (hour_in c.args.underway.now.day)
    (machine_of c.args.at.now c.begin_hour.new.clock c.begin_hour.new.self).next
numbers g c = subst (λ (m : Machine). MayBegin (hour_in c.args.underway.now.day) m.next) (sym (begun g c))
    (begun_numbers (timing_of c.args.circuit.now.options.controlmode) (time_of (hour_in c.args.underway.now.day))
    (machine_in c.args.at.now c.args.underway.now) (hour_in c.args.underway.now.day) c.requires.underway.numbers)

pub begin_hour-requires : goal.begin_hour-requires
begin_hour-requires g c =
    let hour = hour_within c.args.underway.now.day c.requires.underway.day in
    omega (arith, c.time_of.ensures, c.hour-hour.ensures, hour)

pub settle-ended-requires-clause-clock : goal.settle-ended-requires-clause-clock
settle-ended-requires-clause-clock g c =
    let keeps = (work g (goal.at.settle-ended-requires-clause-clock g c).After-begin_hour).keeps in
    record { now = keeps.now; each = keeps.opened_each ∙ c.requires.underway.positions.counts.closed; early = keeps.early }

pub settle-ended-requires-clause-work : goal.settle-ended-requires-clause-work
settle-ended-requires-clause-work g c = work g (goal.at.settle-ended-requires-clause-work g c).After-begin_hour

pub settle-ended-requires-clause-numbers : goal.settle-ended-requires-clause-numbers
settle-ended-requires-clause-numbers g c =
    let few = numbers g (goal.at.settle-ended-requires-clause-numbers g c).After-begin_hour in
    let hour = hour_within c.args.underway.now.day c.requires.underway.day in
    omega (arith, few, hour)

-- ---- the hour is settled

pub returns-clause-settled : goal.returns-clause-settled
returns-clause-settled g c =
    settled_there (λ v. g.V.Solver.gives v (limits_of c.args.circuit.now.options)) g.K.Journal.holds c.args.circuit.now
    c.args.underway.now.day c.args.underway.now.powers.loads c.args.solver.now c.settle-ended.new.solver
    (machine_of c.args.at.now c.begin_hour.new.clock c.begin_hour.new.self) (machine_in c.args.at.now c.args.underway.now)
    (machine_of c.settle-ended.new.at c.settle-ended.new.clock c.settle-ended.new.controls)
    c.forget.new.self c.settle-ended.new.rounds c.settle-ended.result c.requires.underway.powers
    (begun_there c.args.circuit.now c.args.underway.now.day (machine_in c.args.at.now c.args.underway.now) _ _ _ _
    (c.begin_hour.ensures.machine c.args.at.now) c.requires.underway.work.timing c.time_of.ensures c.hour-hour.ensures)
    c.forget.ensures c.settle-ended.ensures.settled

-- ---- what comes behind it

pub returns-clause-left : goal.returns-clause-left
returns-clause-left g c =
    left_behind c.args.underway.now.day c.end_hour.new.self _ c.is_ok.result c.hour-hour.result
    c.requires.underway.day c.requires.underway.hour c.hour-hour.ensures
    c.end_hour.ensures.hour c.end_hour.ensures.last c.is_ok.ensures.value

pub returns-clause-day : goal.returns-clause-day
returns-clause-day g c =
    day_behind c.args.underway.now.day c.end_hour.new.self c.is_ok.result c.hour-hour.result c.requires.underway.day
    c.end_hour.ensures.hour c.end_hour.ensures.last

pub returns-clause-numbers : goal.returns-clause-numbers
returns-clause-numbers g c =
    let few = numbers g (goal.at.returns-clause-numbers g c).After-begin_hour in
    may_begin c.args.underway.now.day c.end_hour.new.self c.settle-ended.result c.is_ok.result c.hour-hour.result
    (machine_of c.settle-ended.new.at c.settle-ended.new.clock c.settle-ended.new.controls).next c.is_ok.ensures.value
    c.end_hour.ensures.hour (omega (arith, few, c.settle-ended.ensures.few, c.hour-hour.ensures))
