-- The acts of a history are those of any states that solve its rounds, through all hours of all Solves, and so are the
-- entries that wait at the end of a Solve.
use Rattle.std.proofs.Common.{◌≡◌, ◌∙◌, ◌⊎◌, ℕ, ◌+◌, List, [], ◌∷◌, ◌++◌, map, Option, Some, None, Result, Ok, Err}
use Rattle.std.proofs.Common.{refl, sym, ap, subst, inl, inr}
use Rattle.std.specs.List.{AllByRecursion}
use Rattle.std.proofs.lemmas.List.{append-nil}
use Rattle.fd_checking.specs.dss_model.Names.{bytes}
use Rattle.fd_checking.specs.dss_model.declared.command.Blame.{Blame}
use Rattle.fd_checking.specs.dss_circuit.Circuit.{CircuitView}
use Rattle.fd_checking.specs.dss_ready.Passed.{PassedLaw}
use Rattle.fd_checking.specs.dss_script.Said.{Said, name, command, ScriptEnd, at_its_end, refused_at}
use Rattle.fd_checking.specs.fd_exact.States.{State}
use Rattle.fd_bench.specs.fd_outside.Files.{Files, held}
use Rattle.fd_checking.specs.fd_bases.declared.bus_base.BusBase.{BusBase}
use Rattle.fd_checking.specs.fd_bases.Bases.{bases_of}
use Rattle.fd_checking.specs.fd_report.Bases.{base_fields}
use Rattle.fd_checking.specs.fd_report.declared.faults.Cause.TheVariants as cause
use Rattle.fd_checking.specs.fd_report.declared.faults.Fault.{Fault}
use Rattle.fd_checking.specs.fd_report.declared.faults.Fault.TheVariants as fault
use Rattle.fd_checking.specs.fd_daily.Hours.{hours_of}
use Rattle.fd_checking.specs.fd_enclosure.Sound.{Claim}
use Rattle.fd_checking.specs.fd_inject.declared.limits.Limits.{Limits}
use Rattle.fd_checking.specs.fd_queue.Controls.{Positions}
use Rattle.fd_checking.specs.fd_queue.Machine.{Act, Machine}
use Rattle.fd_checking.specs.fd_settle.Compute.{computed_of}
use Rattle.fd_checking.specs.fd_settle.Computed.{Ending, Follows, IsComputedFrom, ended}
use Rattle.fd_checking.specs.fd_settle.Contract.{limits_of}
use Rattle.fd_checking.specs.fd_settle.Laws.{NothingDue}
use Rattle.fd_checking.specs.fd_settle.Plant.{controls_in, setup_of}
use Rattle.fd_checking.specs.fd_settle.Rounds.{AtEach, left_by}
use Rattle.fd_checking.specs.fd_settle.Sampling.{Decided, Sampling, Unclear, look_at, look_over}
use Rattle.fd_checking.specs.fd_settle.Settle.{Open, Settled, Limited, Undecidable, Outcome, Ends, Moves, outcome_of}
use Rattle.fd_checking.specs.fd_certfile.Rules.{moves}
use Rattle.fd_checking.specs.fd_check.Checking.{Checking, Settling, act_due, behind_round, open_hours, open_solves}
use Rattle.fd_checking.specs.fd_check.Checking.{sampled_by, under_way}
use Rattle.fd_checking.specs.fd_daily.Underway.{plant_at}
use Rattle.fd_checking.specs.fd_outcome.Events.{Event, History, IfSettle, settle, row}
use Rattle.fd_checking.specs.fd_outcome.History.{IsHistory}
use Rattle.fd_checking.specs.fd_outcome.Parts.{events_in}
use Rattle.fd_checking.specs.fd_outcome.Settles.{Settle, SettleEnd, claim_in, failed, round_of, settled}
use Rattle.fd_checking.specs.fd_outcome.Settles.{without_certificate}
use Rattle.fd_checking.specs.fd_outcome.Work as work
use Rattle.fd_checking.specs.fd_outcome.Work.{AfterStep, Step, goes}
use Rattle.fd_checking.specs.fd_pages.Bases.{base_events}
use Rattle.fd_checking.specs.fd_pages.Hours.{Kept, hour_settle}
use Rattle.fd_checking.specs.fd_solving.Commands.{Applied, nothing_left, solve_left, bases_left, IsByTests, IsStepOf}
use Rattle.fd_checking.specs.fd_solving.Commands.{IsTested, tried}
use Rattle.fd_checking.specs.fd_solving.Commands as commands
use Rattle.fd_checking.specs.fd_solving.Headline.{AreAlike, DecidesAlike, IsSolved}
use Rattle.fd_checking.specs.fd_solving.Scripts.{IsDoneThere, no_name}
use Rattle.fd_checking.specs.fd_solving.Commands.{IsStep}
use Rattle.fd_checking.specs.fd_solving.Solving.{IsBehind, IsEndBy, IsHour, IsHoursStep, IsSolutionStep, begun_by}
use Rattle.fd_checking.specs.fd_solving.Solving.{kept_by, kept_first, rounds_of}
use Rattle.fd_checking.specs.fd_solving.Steps.{StandingView, behind_events, standing}
use Rattle.fd_checking.proofs.CallerLemmas.fd_solving.{nothing_due}
use Rattle.fd_app.specs.Solves.{behind_command, solves_from}
use Rattle.fd_app.specs.Steady.{AreSteady, AreSteadyFrom, IsLastOfFault, Solves, outcome_at}
use Rattle.fd_app.specs.Waiting.{IsEnd, Left, left_at_end, queue_behind, waiting_behind}
use Rattle.fd_app.proofs.Settles.{at_round, behind_it}
use Rattle.fd_app.proofs.Solves.{ended_well, left_all, right_all}
use Rattle.fd_app.proofs.Scripts.{solve_circuit}
use Rattle.fd_app.proofs.Waiting.{none_behind, rests}

-- ---- the rounds of a settle

-- the settle of an hour that ended well left this machine
abbrev left_with : List ℕ → Machine → Option Left
left_with hours n = Some (record { machine = n; hours = hours })

module _ (x : Settle) (hours : List ℕ) (more : List CircuitView) (limits : Limits) (n : Machine) (ending : Ending)
    (rest : Option Left → Checking → Type 0) (well : x.end ≡ settled → ending ≡ ended Settled)
    (at_end : (l : Option Left) (t : Checking) → ending ≡ ended Settled → NothingDue (setup_of x.circuit) n
    → l ≡ left_with hours n
    → t ≡ behind_it x hours more n → rest l t)
    (at_fault : (t : Checking) → (ending ≡ ended Settled → ⊥) → rest None t) where
  abbrev Computed : Machine → List (Claim × List Act) → Type 0
  Computed m rounds = IsComputedFrom (computed_of limits) (plant_at x.circuit x.hour) m rounds ending n

  abbrev AlikeFrom : Machine → List (Claim × List Act) → Type 0
  AlikeFrom m rounds =
      AtEach (DecidesAlike x.circuit x.hour) (plant_at x.circuit x.hour) m (map claim_in (rounds_of rounds))

  abbrev SteadyFrom : ℕ → List (Claim × List Act) → Option Left → Checking → Type 0
  SteadyFrom k rounds l t = AreSteadyFrom x k (rounds_of rounds) l rest t

  none_ended : (m : Machine) → Computed m [] → ending ≡ ended Settled → ⊥
  none_ended m h e = subst (λ (q : Ending). IsComputedFrom (computed_of limits) (plant_at x.circuit x.hour) m [] q n) e h

  module _ (k : ℕ) (m : Machine) (r : Claim × List Act) (later : List (Claim × List Act))
      (next : (j : Machine) → Computed j later → AlikeFrom j later
      → SteadyFrom (k + 1) later None (under_way (at_round x hours more (k + 1) j)))
      (y : State) where
    abbrev s : Settling
    s = at_round x hours more k m

    -- the rounds behind it, where it comes to this
    abbrev SteadyBehind : List (Claim × List Act) → Outcome → Type 0
    SteadyBehind rounds o = SteadyFrom (k + 1) rounds (left_at_end hours o) (behind_round s o)

    abbrev Comes : Type 0
    Comes = IsLastOfFault x (round_of r.0 r.1) (rounds_of later)
        ⊎ ((sampled_by (outcome_at s y) ≡ moves (map act_due r.1)) × SteadyBehind later (outcome_at s y))

    -- a settle that ends here, and not well
    is_last : (end : Ending) → (end ≡ ended Settled → ⊥) → r.1 ≡ [] → later ≡ [] → ending ≡ end → Comes
    is_last end ill acts none is = inl (record {
      last = ap rounds_of none;
      no_act = acts;
      fault = λ e. ill (sym is ∙ well e);
    })

    comes_to : (o : Outcome) → outcome_at s y ≡ o → Follows o r.1 later ending n (λ j. Computed j later)
        → AlikeFrom (left_by o) later
        → Comes
    comes_to (Ends Settled j) e f alike = inr (
      ap sampled_by e ∙ ap (λ (acts : List Act). moves (map act_due acts)) (sym f.0),
      subst (λ (rounds : List (Claim × List Act)). SteadyBehind rounds (outcome_at s y)) (sym f.1.0)
          (at_end (left_at_end hours (outcome_at s y)) (behind_round s (outcome_at s y)) f.1.1.0
          (subst (NothingDue (setup_of x.circuit)) (sym f.1.1.1)
          (nothing_due (setup_of x.circuit) m j (look_at (controls_in x.circuit) m.at y) e))
          (ap (left_at_end hours) e ∙ ap (left_with hours) (sym f.1.1.1))
          (ap (behind_round s) e ∙ ap (behind_it x hours more) (sym f.1.1.1))),
    )
    comes_to (Ends Open j) e f alike = is_last (ended Open) (λ is. cc is) f.0 f.1.0 f.1.1.0
    comes_to (Ends Limited j) e f alike = is_last (ended Limited) (λ is. cc is) f.0 f.1.0 f.1.1.0
    comes_to (Ends (Undecidable i u) j) e f alike = is_last (ended (Undecidable i u)) (λ is. cc is) f.0 f.1.0 f.1.1.0
    comes_to (Moves made j) e f alike = inr (
      ap sampled_by e ∙ ap (λ (acts : List Act). moves (map act_due acts)) (sym f.0),
      subst (SteadyBehind later) (sym e) (next j f.1 alike),
    )

    comes : (w : Sampling) → look_over (controls_in x.circuit) m.at r.0 ≡ w
        → DecidesAlike x.circuit x.hour m.at (claim_in (round_of r.0 r.1)) → Solves s (claim_in (round_of r.0 r.1)) y
        → Follows (outcome_of (setup_of x.circuit) m w) r.1 later ending n (λ j. Computed j later)
        → AlikeFrom (left_by (outcome_of (setup_of x.circuit) m w)) later → Comes
    comes (Unclear i u) is decides solves f alike = is_last (ended (Undecidable i u)) (λ e. cc e) f.0 f.1.0 f.1.1.0
    comes (Decided ds) is decides solves f alike =
        comes_to (outcome_of (setup_of x.circuit) m (Decided ds))
        (ap (outcome_of (setup_of x.circuit) m) (decides y ds solves is)) f alike

  rounds_steady : (rounds : List (Claim × List Act)) (k : ℕ) (m : Machine) → Computed m rounds → AlikeFrom m rounds
      → SteadyFrom k rounds None (under_way (at_round x hours more k m))
  rounds_steady [] k m h alike = at_fault (under_way (at_round x hours more k m)) (none_ended m h)
  rounds_steady (r ∷ later) k m h alike = (
    record { circuit = refl; number = refl; hour = refl; round_is = refl },
    λ y solves. comes k m r later (λ j c a. rounds_steady later (k + 1) j c a) y
        (look_over (controls_in x.circuit) m.at r.0) refl
        alike.0 solves h.1.1 alike.1,
  )

-- ---- an hour

module _ (c : CircuitView) (more : List CircuitView) where
  abbrev opens : List ℕ → Kept → Checking
  opens hours l = open_hours c more hours l.machine l.settled (λ left count. open_solves more left count)

  -- what stands behind an hour that ended well, or at the start of a Solve: these hours of it are left
  abbrev Onward : List ℕ → Kept → List Event → Type 0
  Onward hours l es = AreSteady es (queue_behind c l.machine hours) (opens hours l)

  module _ (hour : ℕ) (hours : List ℕ) (l : Kept) (rounds : List (Claim × List Act)) (ending : Ending) (n : Machine)
      (end : SettleEnd)
      (computed : IsComputedFrom (computed_of (limits_of c.options)) (plant_at c hour) (begun_by c hour l).machine rounds ending n)
      (end_is : IsEndBy c hour ending n end) (es : List Event)
      (later : end ≡ settled → Onward hours (kept_by l n) es) (none : (end ≡ settled → ⊥) → es ≡ []) where
    abbrev x : Settle
    x = hour_settle c hour (begun_by c hour l) (rounds_of rounds) end n.at

    abbrev EndsSo : Option Left → Checking → Type 0
    EndsSo left t = IsEnd x left × AreSteady es (waiting_behind c left) t

    at_end : (left : Option Left) (t : Checking) → ending ≡ ended Settled → NothingDue (setup_of c) n
        → left ≡ left_with hours n
        → t ≡ behind_it x hours more n → EndsSo left t
    at_end left t e due left_is t_is =
        let is : end ≡ settled = subst (λ (q : Ending). IsEndBy c hour q n end) e end_is in
        let here : IsEnd x (left_with hours n) = record { well = (λ _. refl, λ _. is); at_rest = rests c n due } in
        subst (λ (q : Option Left). EndsSo q t) (sym left_is)
        (here, subst (AreSteady es (queue_behind c n hours)) (sym t_is) (later is))

    at_fault : (t : Checking) → (ending ≡ ended Settled → ⊥) → EndsSo None t
    at_fault t ill =
        let ends : end ≡ settled → ⊥ = λ e. ill (ended_well c hour ending n end end_is e) in
        let here : IsEnd x None =
        record { well = (λ e. absurd (ends e), λ some. absurd (let no : ⊥ = cc some in no)); at_rest = tt } in
        (here, subst (λ (q : List Event). AreSteady q None t) (sym (none ends)) refl)

    pub hour_steady : AreAlike x → AreSteady (settle x ∷ es) None (opens (hour ∷ hours) l)
    hour_steady alike = (
      refl,
      (
        none,
        rounds_steady x hours more (limits_of c.options) n ending EndsSo
            (λ e. ended_well c hour ending n end end_is e) at_end at_fault rounds 0
            (begun_by c hour l).machine computed alike,
      ),
    )

  made_steady : (hour : ℕ) (hours : List ℕ) (l : Kept) (made : Settle) (kept : Kept) → IsHour c hour l made kept
      → IsSolved made
      → (es : List Event) → (made.end ≡ settled → Onward hours kept es) → ((made.end ≡ settled → ⊥) → es ≡ [])
      → AreSteady (settle made ∷ es) None (opens (hour ∷ hours) l)
  made_steady hour hours l made kept is solved es later none =
      let x : Settle = hour_settle c hour (begun_by c hour l) (rounds_of is.rounds) is.end is.machine.at in
      let ends : is.end ≡ made.end = sym (ap (λ (s : Settle). s.end) is.settle_is) in
      let here = hour_steady hour hours l is.rounds is.ending is.machine is.end is.computed is.end_is es
      (λ e. subst (λ (k : Kept). Onward hours k es) is.kept (later (sym ends ∙ e)))
      (λ ill. none (λ e. ill (ends ∙ e)))
      (subst AreAlike is.settle_is solved.alike) in
      subst (λ (s : Settle). AreSteady (settle s ∷ es) None (opens (hour ∷ hours) l)) (sym is.settle_is) here

  -- ---- the hours of a Solve

  -- what stands behind a step
  abbrev Behind : Step StandingView → List Event → Type 0
  Behind (goes events t) later = AreSteady later None (open_solves more t.at t.settled)
  Behind (work.ends events f) later = later ≡ []

  abbrev StepFrom : List ℕ → Kept → List Event → Step StandingView → Type 0
  StepFrom hours l later s = Onward hours l (events_in s ++ later)

  abbrev Again : List ℕ → Kept → List Event → Type 0
  Again hours l later =
      (s : Step StandingView) → IsHoursStep c hours l s → AllByRecursion (IfSettle IsSolved) (events_in s)
      → Behind s later → StepFrom hours l later s

  pub hours_steady : (hours : List ℕ) (l : Kept) (step : Step StandingView) → IsHoursStep c hours l step
      → AllByRecursion (IfSettle IsSolved) (events_in step) → (later : List Event) → Behind step later
      → Onward hours l (events_in step ++ later)
  hours_steady [] l step h solved later behind =
      let b = subst (λ (s : Step StandingView). Behind s later) h behind in
      subst (StepFrom [] l later) (sym h) ((refl, refl), b)
  hours_steady (hour ∷ hours) l step h solved later behind =
      by h.made.end refl h.goes_on (λ s right all b. hours_steady hours h.kept s right all later b)
    where
      goes_on : h.made.end ≡ settled → (rest : Step StandingView) → IsHoursStep c hours h.kept rest
          → step ≡ behind_events (settle h.made ∷ []) rest → Again hours h.kept later
          → StepFrom (hour ∷ hours) l later step
      goes_on well (goes es u) right is again =
          let all = subst (λ (s : Step StandingView). AllByRecursion (IfSettle IsSolved) (events_in s)) is solved in
          let b = subst (λ (s : Step StandingView). Behind s later) is behind in
          subst (StepFrom (hour ∷ hours) l later) (sym is)
          (made_steady hour hours l h.made h.kept h.is all.0 (es ++ later) (λ e. again (goes es u) right all.1 b)
          (λ ill. absurd (ill well)))
      goes_on well (work.ends es f) right is again =
          let all = subst (λ (s : Step StandingView). AllByRecursion (IfSettle IsSolved) (events_in s)) is solved in
          let b = subst (λ (s : Step StandingView). Behind s later) is behind in
          subst (StepFrom (hour ∷ hours) l later) (sym is)
          (made_steady hour hours l h.made h.kept h.is all.0 (es ++ later) (λ e. again (work.ends es f) right all.1 b)
          (λ ill. absurd (ill well)))

      stops : (h.made.end ≡ settled → ⊥) → (f : Fault) → step ≡ work.ends (settle h.made ∷ []) f
          → StepFrom (hour ∷ hours) l later step
      stops ill f is =
          let all = subst (λ (s : Step StandingView). AllByRecursion (IfSettle IsSolved) (events_in s)) is solved in
          let b = subst (λ (s : Step StandingView). Behind s later) is behind in
          subst (StepFrom (hour ∷ hours) l later) (sym is)
          (made_steady hour hours l h.made h.kept h.is all.0 later (λ e. absurd (ill e)) (λ e. b))

      by : (end : SettleEnd) → h.made.end ≡ end → IsBehind h.made end (λ s. IsHoursStep c hours h.kept s) step
          → Again hours h.kept later
          → StepFrom (hour ∷ hours) l later step
      by settled well on again = goes_on well on.more on.right on.step_is again
      by (failed f) well on again = stops (λ e. let no = sym well ∙ e in cc no) f on
      by (without_certificate r f) well on again = stops (λ e. let no = sym well ∙ e in cc no) f on

-- ---- a command

-- bases are no rounds
bases_steady : (bases : List BusBase) (later : List Event) (t : Checking) → AreSteady later None t
    → AreSteady (map (λ b. row (base_fields b.bus b.kv)) bases ++ later) None t
bases_steady [] later t h = h
bases_steady (b ∷ bases) later t h = (refl, bases_steady bases later t h)

module _ (passed : PassedLaw) where
  -- so where nothing is to be told of what waits
  abbrev SteadyFirst : List Event → Checking → Type 0
  SteadyFirst events t = AreSteady events None t

  abbrev BehindIt : (CircuitView → List CircuitView) → Step StandingView → List Event → Type 0
  BehindIt more (goes events t) later = SteadyFirst later (open_solves (more t.circuit) t.at t.settled)
  BehindIt more (work.ends events f) later = later ≡ []

  module _ (at : Positions) (n : ℕ) (more : CircuitView → List CircuitView) (later : List Event) where
    abbrev IsSteadyStep : Applied → Step StandingView → Type 0
    IsSteadyStep left step = SteadyFirst (events_in step ++ later) (open_solves (behind_command left more) at n)

    step_as : (left : Applied) (step s : Step StandingView) → step ≡ s → (BehindIt more s later → IsSteadyStep left s)
        → BehindIt more step later → IsSteadyStep left step
    step_as left step s is h behind =
        subst (IsSteadyStep left) (sym is) (h (subst (λ (q : Step StandingView). BehindIt more q later) is behind))

    no_more : (left : Applied) (f : Fault) → BehindIt more (work.ends [] f) later → IsSteadyStep left (work.ends [] f)
    no_more left f none =
        subst (λ (q : List Event). SteadyFirst q (open_solves (behind_command left more) at n)) (sym none) refl

    solve_steady : (d : CircuitView) (step : Step StandingView) (answer : Result Unit Blame) → IsTested d answer
        → IsByTests (standing d at n) answer step → AllByRecursion (IfSettle IsSolved) (events_in step)
        → BehindIt more step later
        → IsSteadyStep (solve_left d) step
    unfolding IsSolutionStep
    solve_steady d step (Err blame) right is all behind =
        let f = fault.Script blame.place (cause.Model blame.cause) in
        step_as (solve_left d) step (work.ends [] f) is (no_more (solve_left d) f) behind
    solve_steady d step (Ok done) ready is all behind =
        let first : Kept = kept_first (standing d at n) in
        none_behind d first.machine (hours_of d.options) (events_in step ++ later) (open_solves (d ∷ more d) at n) refl
        (hours_steady d (more d) (hours_of d.options) first step is all later (there step refl behind))
      where
        there : (s : Step StandingView) → step ≡ s → BehindIt more s later → Behind d (more d) s later
        there (goes es t) same b =
            subst (λ (c : CircuitView). SteadyFirst later (open_solves (more c) t.at t.settled))
            (solve_circuit passed d at n step ready is es t same) b
        there (work.ends es f) same b = b

    step_steady : (left : Applied) (step : Step StandingView) → IsStepOf at n left step
        → AllByRecursion (IfSettle IsSolved) (events_in step) → BehindIt more step later → IsSteadyStep left step
    step_steady (nothing_left d) step is all behind =
        step_as (nothing_left d) step (goes [] (standing d at n)) is (λ b. b) behind
    step_steady (bases_left d) step is all behind =
        step_as (bases_left d) step (goes (base_events d) (standing d at n)) is
        (λ b. bases_steady (bases_of d) later (open_solves (more d) at n) b) behind
    step_steady (commands.refused_at place c) step is all behind =
        step_as (commands.refused_at place c) step (work.ends [] (fault.Script place c)) is
        (no_more (commands.refused_at place c) (fault.Script place c)) behind
    step_steady (solve_left d) step is all behind = solve_steady d step is.answer is.right is.step_is all behind

  -- ---- a script

  module _ (files : Files) where
    abbrev IsHistoryFrom : List Said → ScriptEnd → StandingView → History → Type 0
    IsHistoryFrom said end s h = IsHistory IsStep no_name IsDoneThere (λ n. held files (bytes n)) said end s h

    abbrev IsSteadyFrom : List Said → StandingView → List Event → Type 0
    IsSteadyFrom said s events = SteadyFirst events (open_solves (solves_from said s.circuit) s.at s.settled)

    abbrev AllSolved : List Event → Type 0
    AllSolved events = AllByRecursion (IfSettle IsSolved) events

    pub script_steady : (said : List Said) (end : ScriptEnd) (s : StandingView) (h : History)
        → IsHistoryFrom said end s h
        → AllSolved h.events → IsSteadyFrom said s h.events
    script_steady [] at_its_end s h is all = subst (λ (x : History). IsSteadyFrom [] s x.events) (sym is) refl
    script_steady [] (refused_at place c) s h is all = subst (λ (x : History). IsSteadyFrom [] s x.events) (sym is) refl
    script_steady (name n ∷ more) end s h is all =
        let solved = subst (λ (x : History). AllSolved x.events) is.h_is all in
        subst (λ (x : History). IsSteadyFrom (name n ∷ more) s x.events) (sym is.h_is)
        (refl, script_steady more end s is.more is.right solved.1)
    script_steady (command c ∷ more) end s h is all =
        step_of is.step is.right is.goes_on (λ t x right solved. script_steady more end t x right solved)
      where
        step_of : (step : Step StandingView) → IsStep c s step → AfterStep step (λ t x. IsHistoryFrom more end t x) h
            → ((t : StandingView) (x : History) → IsHistoryFrom more end t x → AllSolved x.events
            → IsSteadyFrom more t x.events)
            → IsSteadyFrom (command c ∷ more) s h.events
        step_of (goes events t) right on again =
            let solved = subst (λ (x : History). AllSolved x.events) on.h_is all in
            subst (λ (x : History). IsSteadyFrom (command c ∷ more) s x.events) (sym on.h_is)
            (step_steady s.at s.settled (λ next. solves_from more next) on.more.events (tried c s.circuit)
            (goes events t) right
            (left_all (IfSettle IsSolved) events on.more.events solved)
            (again t on.more on.right (right_all (IfSettle IsSolved) events on.more.events solved)))
        step_of (work.ends events f) right on again =
            let solved = subst (λ (x : History). AllSolved x.events) on all in
            subst (λ (x : History). IsSteadyFrom (command c ∷ more) s x.events) (sym on)
            (subst (IsSteadyFrom (command c ∷ more) s) (append-nil events)
            (step_steady s.at s.settled (λ next. solves_from more next) [] (tried c s.circuit)
            (work.ends events f) right solved refl))
