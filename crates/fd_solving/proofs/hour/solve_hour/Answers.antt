use Rattle.std.proofs.Common.{◌≡◌, ◌∙◌, ◌+◌, List, Result, Ok, Err, ap, refl, subst}
use Rattle.dss_commands.specs.dss_circuit.Circuit.{CircuitView}
use Rattle.fd_daily.specs.Day.{begun_hour, hour_in}
use Rattle.fd_daily.specs.Underway.{machine_in, plant_at}
use Rattle.fd_daily.specs.fd_settings.Hours.{hour_powers}
use Rattle.fd_daily.specs.fd_devices.declared.settings.Powers.{Powers}
use Rattle.fd_daily.specs.fd_elements.declared.powers.LoadPower.{LoadPower}
use Rattle.fd_daily.specs.fd_queue.Controls.{Positions}
use Rattle.fd_daily.specs.fd_sample.Probes.{positions_in}
use Rattle.fd_daily.specs.fd_enclosure.Sound.{Claim}
use Rattle.fd_daily.specs.fd_pattern.Views.{NetworkView}
use Rattle.fd_daily.specs.fd_settle.Compute.{ComputeGives}
use Rattle.fd_daily.specs.fd_settle.Contract.{limits_of}
use Rattle.fd_daily.specs.fd_settle.declared.compute.ComputeFault.{ComputeFault}
use Rattle.fd_daily.specs.fd_settle.Start.{ArePositions}
use Rattle.fd_daily.proofs.CallerLemmas.{whole_hour}
use Rattle.fd_daily.proofs.CallerLemmas.fd_settle.{computed}
use Rattle.fd_solving.specs.Answered.{kept_in}
use Rattle.fd_solving.proofs.Settled.{IsMade, ended_by_fault, ended_well, within}
use Rattle.fd_solving.proofs.Tried.{tried_by_calls}
use Rattle.fd_solving.proofs.hour.solve_hour.Goals as goal

-- the positions with the powers of the hour
of_hour : (c : CircuitView) (hour : _) (at : Positions) (now before : Powers) → now ≡ before
    → before.loads ≡ hour_powers c.elements hour → ArePositions c now.loads at
    → ArePositions c (hour_powers c.elements hour) at
of_hour c hour at now before kept powers h =
    subst (λ (x : List LoadPower). ArePositions c x at) (ap (λ (p : Powers). p.loads) kept ∙ powers) h

-- what the solver that computes may answer
abbrev computing : {V : Type 0} → CircuitView → V → NetworkView → Result Claim ComputeFault → V → Type 0
computing c v net answer w = ComputeGives (limits_of c.options) net answer

pub returns-in-Ok-clause-made : goal.returns-in-Ok-clause-made
returns-in-Ok-clause-made c n number =
    let circuit = c.args.circuit.now in
    let u = c.args.underway.now in
    let hour = hour_in u.day in
    let m = begun_hour circuit u.day (machine_in c.args.at.now u) in
    let new = c.daily_run-ended.new in
    let rs = new.underway.rounds.items in
    let k = kept_in (machine_in new.at new.underway) (n + 1) in
    let e = c.in-Ok.ensures in
    let h = whole_hour (computing circuit) circuit u.day c.args.solver.now new.solver
    (machine_in c.args.at.now u) (machine_in new.at new.underway) new.underway.rounds (Ok tt) e.settled in
    let made : IsMade circuit (hour_powers circuit.elements hour) m rs (Ok tt) k = record {
      left_is = h.machine;
      ends = h.ends;
      computed = computed {T = Unit {0}} (limits_of circuit.options) (plant_at circuit hour) c.args.solver.now m rs
          (Ok tt) new.solver h.acts h.ends h.calls;
      sound = h.sound;
      positions = of_hour circuit hour
          (positions_in new.at) new.underway.powers u.powers e.powers c.requires.underway.powers e.positions;
      tried = tt;
    } in
    ended_well circuit hour (kept_in (machine_in c.args.at.now u) n) rs k c.requires.ready
    c.options-options.ensures.in_range.maxcontroliter refl tt made

pub failure_of-requires-clause-within : goal.failure_of-requires-clause-within
failure_of-requires-clause-within c =
    let circuit = c.args.circuit.now in
    let u = c.args.underway.now in
    let new = c.daily_run-ended.new in
    let h = whole_hour (computing circuit) circuit u.day c.args.solver.now new.solver (machine_in c.args.at.now u)
    (machine_in new.at new.underway) new.underway.rounds (Err c.in-Err.fault) c.in-Err.ensures.settled in
    within (limits_of circuit.options) circuit (hour_powers circuit.elements (hour_in u.day)) c.args.solver.now
    (begun_hour circuit u.day (machine_in c.args.at.now u)) c.daily_run-ended.new.underway.rounds.items c.in-Err.fault
    c.daily_run-ended.new.solver c.layout.result.now (c.layout.ensures ∙ c.in-Err.ensures.built.layout)
    h.calls

pub returns-in_ok-failure-in-Err-clause-made : goal.returns-in_ok-failure-in-Err-clause-made
returns-in_ok-failure-in-Err-clause-made c n number =
    let circuit = c.args.circuit.now in
    let u = c.args.underway.now in
    let hour = hour_in u.day in
    let m = begun_hour circuit u.day (machine_in c.args.at.now u) in
    let new = c.daily_run-ended.new in
    let rs = new.underway.rounds.items in
    let k = kept_in (machine_in new.at new.underway) (n + 1) in
    let e = c.in-Err.ensures in
    let h = whole_hour (computing circuit) circuit u.day c.args.solver.now new.solver
    (machine_in c.args.at.now u) (machine_in new.at new.underway) new.underway.rounds (Err c.in-Err.fault) e.settled in
    let made : IsMade circuit (hour_powers circuit.elements hour) m rs (Err c.in-Err.fault) k = record {
      left_is = h.machine;
      ends = h.ends;
      computed = computed {T = Unit {0}} (limits_of circuit.options) (plant_at circuit hour) c.args.solver.now m rs
          (Err c.in-Err.fault) new.solver h.acts h.ends h.calls;
      sound = h.sound;
      positions = of_hour circuit hour
          (positions_in new.at) new.underway.powers u.powers e.powers c.requires.underway.powers e.positions;
      tried = tried_by_calls (limits_of circuit.options) (plant_at circuit hour) c.args.solver.now m rs
          (Err c.in-Err.fault) new.solver h.calls;
    } in
    ended_by_fault circuit hour (kept_in (machine_in c.args.at.now u) n) rs k c.requires.ready
    c.options-options.ensures.in_range.maxcontroliter refl c.in-Err.fault c.in_ok-failure-in-Err.failure
    made c.in_ok-failure-in-Err.ensures.of_command c.in_ok-failure-in-Err.ensures.tried
    (c.in_ok-failure-in-Err.ensures.tells hour)
