use Rattle.std.proofs.Common.{◌≡◌, ◌∙◌, ℕ, List, [], drop, length, map, true, Result, Ok, Err, refl, sym, ap, subst}
use Rattle.std.proofs.lemmas.List.{length-map}
use Rattle.std.specs.Prelude.{OnOk, is_ok}
use Rattle.dss_commands.specs.dss_circuit.Circuit.{CircuitView}
use Rattle.fd_daily.specs.fd_settle.declared.round.Round.{Round}
use Rattle.fd_daily.specs.Day.{begun_hour, hour_in, hours_left, hours_done}
use Rattle.fd_daily.specs.Underway.{machine_in, plant_at}
use Rattle.fd_certfile.specs.Blocks.{Act}
use Rattle.fd_certfile.specs.Reader.{ReaderView}
use Rattle.fd_check.specs.Checking.{Checking}
use Rattle.fd_check.specs.Comes.{Comes, Leads, Tells}
use Rattle.fd_check.specs.Comparing.{acts_made, first_unlike, hour_told, with_acts}
use Rattle.fd_check.specs.Given.{AreGiven}
use Rattle.fd_check.specs.Hours.{behind_hour, first_round, hour_open}
use Rattle.fd_check.proofs.Judged.{IsRun, are_given, hour_goes, hour_refused, on_well}
use Rattle.fd_check.proofs.Kept.{claimed_made}
use Rattle.fd_check.proofs.Way.{each_err, each_ok}
use Rattle.fd_check.proofs.hours.check_hour.Goals as goal

-- what holds where a settle ended well
on_ok : {T F : Type 0} (r : Result T F) (P : Type 0) → is_ok r ≡ true → OnOk r P → P
on_ok (Ok t) P well h = h
on_ok (Err f) P well h = absurd (cc)

-- the reader before the hour's settle, which it was told of
begun_by : (r begun : ReaderView) (number hour h : ℕ) → begun ≡ record r { number = number; hour = hour; round = 0 }
    → hour ≡ h → begun ≡ record r { number = number; hour = h; round = 0 }
begun_by r begun number hour h is same = is ∙ ap (λ (k : ℕ). record r { number = number; hour = k; round = 0 }) same

begun_is : (c : goal.After-judge_hour)
    → c.begin.new.self ≡ record c.args.reader.now { number = c.args.number; hour = hour_in c.args.underway.now.day; round = 0 }
begun_is c = begun_by c.args.reader.now c.begin.new.self c.args.number c.hour-hour.result (hour_in c.args.underway.now.day) c.begin.ensures c.hour-hour.ensures

run_is : (c : goal.After-judge_hour)
    → IsRun (plant_at c.args.circuit.now (hour_in c.args.underway.now.day)) (begun_hour c.args.circuit.now c.args.underway.now.day (machine_in c.args.at.now c.args.underway.now))
    c.daily_run-ended.ensures.settled.made c.daily_run-ended.result c.begin.new.self c.daily_run-ended.new.solver
run_is c = let h = c.daily_run-ended.ensures.settled.settled in record { acts = h.acts; ends = h.ends; calls = h.calls }

told_is : (c : goal.After-judge_hour)
    → c.judge_hour.result
    ≡ hour_told c.daily_run-ended.new.solver c.daily_run-ended.result
    (first_unlike (map acts_made (with_acts c.daily_run-ended.result c.daily_run-ended.ensures.settled.made))
    (drop (length c.begin.new.self.given) c.daily_run-ended.new.solver.given))
told_is c =
    let w = c.daily_run-ended.new.solver in
    let ended = c.daily_run-ended.result in
    let hour = c.daily_run-ended.ensures.settled in
    c.judge_hour.ensures
    ∙ ap (λ (acts : List (List Act)). hour_told w ended (first_unlike acts (drop c.given-first.result w.given)))
    (claimed_made ended c.deref.result.now hour.made (c.deref.ensures.value ∙ hour.held))
    ∙ ap (λ (n : ℕ). hour_told w ended (first_unlike (map acts_made (with_acts ended hour.made)) (drop n w.given)))
    c.given-first.ensures

pub judge_hour-requires : goal.judge_hour-requires
judge_hour-requires c =
    let circuit = c.args.circuit.now in
    let day = c.args.underway.now.day in
    let hour = c.daily_run-ended.ensures.settled in
    let h = hour.settled in
    let r = c.begin.new.self in
    let w = c.daily_run-ended.new.solver in
    let ended = c.daily_run-ended.result in
    let begun = begun_by c.args.reader.now r c.args.number c.hour-hour.result (hour_in day) c.begin.ensures c.hour-hour.ensures in
    let given : AreGiven ended (length r.given) (length hour.made) (length w.given) =
    are_given c.certificate_law.ensures (first_round circuit day (machine_in c.args.at.now c.args.underway.now) c.args.number [] []) r w
    (ap (λ (k : ReaderView). k.number) begun) (ap (λ (k : ReaderView). k.hour) begun) (ap (λ (k : ReaderView). k.round) begun) hour.made ended
    (record { acts = h.acts; ends = h.ends; calls = h.calls }) in
    let as_many : length c.deref.result.now ≡ length hour.made =
    ap length (c.deref.ensures.value ∙ hour.held) ∙ length-map hour.made (λ (x : Round). x.acts) in
    subst (λ (n : ℕ). AreGiven ended n (length c.deref.result.now) (length w.given)) (sym c.given-first.ensures)
    (subst (λ (n : ℕ). AreGiven ended (length r.given) n (length w.given)) (sym as_many) given)

pub returns-clause-goes : goal.returns-clause-goes
returns-clause-goes c hours =
    let circuit = c.args.circuit.now in
    let day = c.args.underway.now.day in
    let n = c.daily_run-ended.new in
    let r = c.args.reader.now in
    let before : List CircuitView → Checking = hour_open circuit day (machine_in c.args.at.now c.args.underway.now) c.args.number hours in
    let behind : List CircuitView → Checking = behind_hour circuit (machine_in n.at n.underway) c.args.number hours in
    each_ok c.judge_hour.result (λ (more : List CircuitView). Leads r (before more) n.solver (behind more))
    (λ more. hour_goes c.certificate_law.ensures (first_round circuit day (machine_in c.args.at.now c.args.underway.now) c.args.number hours more) r c.begin.new.self n.solver (begun_is c) refl
    c.daily_run-ended.ensures.settled.made c.daily_run-ended.result (run_is c) c.judge_hour.result (told_is c) (machine_in n.at n.underway) c.daily_run-ended.ensures.settled.settled.machine)

pub returns-clause-refused : goal.returns-clause-refused
returns-clause-refused c hours =
    let circuit = c.args.circuit.now in
    let day = c.args.underway.now.day in
    let n = c.daily_run-ended.new in
    let r = c.args.reader.now in
    let before : List CircuitView → Checking = hour_open circuit day (machine_in c.args.at.now c.args.underway.now) c.args.number hours in
    each_err c.judge_hour.result (λ (more : List CircuitView) e. Tells e (Comes r (before more))) (λ more.
    hour_refused c.certificate_law.ensures (first_round circuit day (machine_in c.args.at.now c.args.underway.now) c.args.number hours more) r
    c.begin.new.self n.solver (begun_is c) refl c.daily_run-ended.ensures.settled.made c.daily_run-ended.result
    (run_is c) c.judge_hour.result (told_is c))

pub returns-clause-left : goal.returns-clause-left
returns-clause-left c =
    let day = c.args.underway.now.day in
    let e = c.daily_run-ended.ensures in
    on_well c.daily_run-ended.new.solver c.daily_run-ended.result _ c.judge_hour.result _ (told_is c)
    (λ well. record {
      after_hour = record { positions = e.positions; loads = e.loads; probes = e.probes; day = e.day; built = e.built; work = e.work };
      left = e.left ∙ ap (λ t. hours_done t (hour_in day) (hours_left c.daily_run-ended.new.underway.day)) well;
      numbers = on_ok c.daily_run-ended.result _ well e.numbers;
    })
