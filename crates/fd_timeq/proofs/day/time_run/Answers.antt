use Rattle.fd_daily.specs.fd_settings.Hours.{hour_powers}
use Rattle.fd_daily.specs.fd_settle.Contract.{limits_of}
use Rattle.fd_daily.specs.Day.{begun_hour, hour_in}
use Rattle.fd_daily.specs.Underway.{machine_in, plant_at}
use Rattle.fd_daily.proofs.CallerLemmas.{whole_hour}
use Rattle.fd_timeq.specs.Timed.{carried, timed_plant}
use Rattle.fd_timeq.proofs.Timing.{IsSettled, begun_there, plant_there, settled_there}
use Rattle.fd_timeq.proofs.day.time_run.Goals.{After-daily_run}
use Rattle.fd_timeq.proofs.day.time_run.Goals as goal

made : (g : _) (c : After-daily_run g)
    → IsSettled (λ v. g.V.Solver.gives v (limits_of c.args.circuit.now.options)) c.args.circuit.now
    (hour_powers c.args.circuit.now.elements (hour_in c.args.day.now.underway.day))
    (timed_plant c.args.circuit.now (hour_in c.args.day.now.underway.day)) c.args.solver.now c.daily_run.new.solver
    (carried (hour_in c.args.day.now.underway.day) (machine_in c.args.at.now c.args.day.now.underway))
    (machine_in c.daily_run.new.at c.daily_run.new.underway) c.daily_run.new.underway.rounds.items c.daily_run.result
made g c =
    let h = whole_hour (λ v. g.V.Solver.gives v (limits_of c.args.circuit.now.options)) c.args.circuit.now
    c.args.day.now.underway.day c.args.solver.now c.daily_run.new.solver
    (machine_in c.args.at.now c.args.day.now.underway) (machine_in c.daily_run.new.at c.daily_run.new.underway)
    c.daily_run.new.underway.rounds c.daily_run.result c.daily_run.ensures.settled in
    settled_there (λ v. g.V.Solver.gives v (limits_of c.args.circuit.now.options)) c.args.circuit.now
    (hour_powers c.args.circuit.now.elements (hour_in c.args.day.now.underway.day))
    (plant_at c.args.circuit.now (hour_in c.args.day.now.underway.day))
    (timed_plant c.args.circuit.now (hour_in c.args.day.now.underway.day)) c.args.solver.now c.daily_run.new.solver
    (begun_hour c.args.circuit.now c.args.day.now.underway.day (machine_in c.args.at.now c.args.day.now.underway))
    (carried (hour_in c.args.day.now.underway.day) (machine_in c.args.at.now c.args.day.now.underway))
    (machine_in c.daily_run.new.at c.daily_run.new.underway) c.daily_run.new.underway.rounds.items c.daily_run.result
    (plant_there c.args.circuit.now c.requires.mode (hour_in c.args.day.now.underway.day))
    (begun_there c.args.circuit.now c.requires.mode c.args.day.now.underway.day
    (machine_in c.args.at.now c.args.day.now.underway))
    (record { acts = h.acts; machine = h.machine; ends = h.ends; calls = h.calls; sound = h.sound })

pub returns-clause-acts : goal.returns-clause-acts
returns-clause-acts g c = (made g (goal.at.returns-clause-acts g c).After-daily_run).acts

pub returns-clause-machine : goal.returns-clause-machine
returns-clause-machine g c = (made g (goal.at.returns-clause-machine g c).After-daily_run).machine

pub returns-clause-ends : goal.returns-clause-ends
returns-clause-ends g c = (made g (goal.at.returns-clause-ends g c).After-daily_run).ends

pub returns-clause-calls : goal.returns-clause-calls
returns-clause-calls g c = (made g (goal.at.returns-clause-calls g c).After-daily_run).calls

pub returns-clause-sound : goal.returns-clause-sound
returns-clause-sound g c = (made g (goal.at.returns-clause-sound g c).After-daily_run).sound
