-- Every settle of a short circuit is a study.
use Rattle.std.proofs.Common.{◌≡◌, ◌∙◌, ℕ, ◌+◌, ◌≤◌, Bool, true, false, List, [], ◌∷◌, ◌++◌, map, Option, Some, None}
use Rattle.std.proofs.Common.{Result, Ok, Err, slice_index_or, refl, sym, ap, subst, arith}
use Rattle.std.specs.List.{AllByRecursion}
use Rattle.std.proofs.lemmas.List.{append-nil}
use Rattle.std.proofs.lemmas.List.Elements.{All-cons, All-from_recursion, All-nil, recursion_from_All}
use Rattle.fd_fault.specs.dss_model.Names.{bytes, lower}
use Rattle.fd_fault.specs.dss_model.InRange.{OptionsInRange}
use Rattle.fd_fault.specs.dss_model.declared.command.Blame.{Blame}
use Rattle.fd_fault.specs.dss_model.declared.fault.ModelFault.{ModelFault}
use Rattle.fd_fault.specs.dss_model.declared.options.Options.{Options}
use Rattle.fd_fault.specs.dss_model.declared.words.Mode.TheVariants as mode
use Rattle.fd_fault.specs.dss_circuit.Circuit.{CircuitView, empty_circuit, has_circuit}
use Rattle.fd_fault.specs.dss_circuit.InRange.{IsWithinLimits}
use Rattle.fd_fault.specs.dss_layout.Layout.{first_too_many}
use Rattle.fd_fault.specs.dss_ready.Ready.{HasPassed}
use Rattle.fd_fault.specs.FaultCircuit.{fault_circuit_of, fault_elements, first_missing}
use Rattle.fd_fault.specs.ShortNames.{first_free}
use Rattle.fd_fault.proofs.CallerLemmas.{fault_passed, fault_within, is_first}
use Rattle.fd_solving.specs.dss_commands.Commands.{applied}
use Rattle.fd_solving.specs.dss_commands.Laws.{LimitsLaw}
use Rattle.fd_solving.specs.dss_script.Said.{Said, ScriptEnd, at_its_end, command, ended_by, name, refused_at, said_of}
use Rattle.fd_solving.specs.dss_script.SaidRoom.{SaidRoomLaw, room_of}
use Rattle.fd_solving.specs.fd_daily.Hours.{hours_of}
use Rattle.fd_solving.specs.fd_daily.Underway.{no_positions, plant_at}
use Rattle.fd_solving.specs.fd_enclosure.Sound.{Claim}
use Rattle.fd_solving.specs.fd_outside.Files.{held}
use Rattle.fd_solving.specs.fd_pages.Hours.{Kept}
use Rattle.fd_solving.specs.fd_queue.Controls.{Positions}
use Rattle.fd_solving.specs.fd_queue.Machine.{Machine}
use Rattle.fd_solving.specs.fd_settle.Plant.{Plant}
use Rattle.fd_solving.specs.fd_settle.Rounds.{AtEach, after_round}
use Rattle.fd_solving.specs.fd_xfmr.Leakage.{AreTaps}
use Rattle.fd_solving.specs.fd_outcome.Events as event
use Rattle.fd_solving.specs.fd_outcome.Events.{AllSettles, Event, History, IfSettle, asked, behind_settles, row, settle}
use Rattle.fd_solving.specs.fd_outcome.Events.{swept, waits}
use Rattle.fd_solving.specs.fd_outcome.History.{IsHistory}
use Rattle.fd_solving.specs.fd_outcome.Parts.{events_in}
use Rattle.fd_solving.specs.fd_outcome.Settles.{Settle, SettleEnd, failed, settled, without_certificate}
use Rattle.fd_solving.specs.fd_outcome.Work.{AfterStep, Step, ends, goes}
use Rattle.fd_solving.specs.Commands.{IsTested}
use Rattle.fd_solving.specs.Headline.{EnclosesAll, EnclosesAllSizes, IsLinear, IsSolution, IsSolved, claims_of}
use Rattle.fd_solving.specs.Headline.{machine_of}
use Rattle.fd_solving.specs.SolvedLaw.{SolutionLaw}
use Rattle.fd_solving.specs.Solving.{IsBehind, IsHoursStep, IsSolutionStep, kept_first}
use Rattle.fd_solving.specs.Steps.{StandingView, behind_events, standing, step_with}
use Rattle.fd_solving.specs.Weights.{weight}
use Rattle.fd_solving.proofs.CallerLemmas.{Takes, verb_takes}
use Rattle.fd_solving.proofs.CallerLemmas.dss_commands.{none_within}
use Rattle.fd_shorting.specs.Pages.{its_phases, short_rows}
use Rattle.fd_shorting.specs.Shorting.{IsAsked, IsByCircuit, IsByTests, IsPlaced, IsShorted, IsShortingStep}
use Rattle.fd_shorting.specs.Shorting.{IsSolvedOnce, IsWithin, ShortingView, no_shorting_name, shorting, snapshot}
use Rattle.fd_shorting.specs.Studies.{IsStudy}
use Rattle.fd_shorting.specs.StudiedLaw.{StudiedLaw}
use Rattle.fd_shorting.proofs.Linear.{is_linear}
use Rattle.fd_shorting.proofs.Only.{one_short_step, refused_step, taken_step}

-- ---- a settle

each_weaker : (P Q : Positions → Claim → Type 0) → ((at : Positions) (m : Claim) → P at m → Q at m)
    → (p : Plant) (k : Machine) (ms : List Claim)
    → AtEach P p k ms → AtEach Q p k ms
each_weaker P Q f p k [] h = tt
each_weaker P Q f p k (m ∷ ms) h = (f k.at m h.0, each_weaker P Q f p (after_round p k m) ms h.1)

module _ (c : CircuitView) (linear : (hour : ℕ) (at : Positions) → IsLinear c hour at) where
  study_of : (s : Settle) → s.circuit ≡ c → IsSolved s → IsStudy s
  study_of s own solved =
      let here : (at : Positions) → IsLinear s.circuit s.hour at =
      λ at. subst (λ (x : CircuitView). IsLinear x s.hour at) (sym own) (linear s.hour at) in
      let plant = plant_at s.circuit s.hour in
      record {
        solved = solved;
        encloses =
            each_weaker (IsSolution s.circuit s.hour) (EnclosesAll s.circuit s.hour)
            (λ at m is. is.encloses_all (here at))
            plant (machine_of s) (claims_of s) solved.solutions;
        sizes = each_weaker (IsSolution s.circuit s.hour) (EnclosesAllSizes s.circuit s.hour)
            (λ at m is. is.sizes_of_all (here at))
            plant (machine_of s) (claims_of s) solved.solutions;
      }

  abbrev IsOwn : Settle → Type 0
  IsOwn s = s.circuit ≡ c

  both : (e : Event) → IfSettle IsOwn e → IfSettle IsSolved e → IfSettle IsStudy e
  both (settle s) own solved = study_of s own solved
  both (asked n) own solved = tt
  both (row fields) own solved = tt
  both (waits k es) own solved = tt
  both (swept k m l) own solved = tt
  both (event.line t) own solved = tt

  all_studies : (events : List Event) → AllSettles IsOwn events → AllSettles IsSolved events → AllSettles IsStudy events
  all_studies events own solved = λ k d within. both (slice_index_or events k d) (own k d within) (solved k d within)

  -- ---- the settles of its hours are of this circuit

  settle_first : (x : Settle) (more : Step StandingView) → IsOwn x → AllSettles IsOwn (events_in more)
      → AllSettles IsOwn (events_in (behind_events (settle x ∷ []) more))
  settle_first x (goes events t) own rest = All-cons (IfSettle IsOwn) (settle x) events own rest
  settle_first x (ends events f) own rest = All-cons (IfSettle IsOwn) (settle x) events own rest

  settle_alone : (x : Settle) (step : Step StandingView) → IsOwn x → events_in step ≡ settle x ∷ []
      → AllSettles IsOwn (events_in step)
  settle_alone x step own is =
      subst (AllSettles IsOwn) (sym is) (All-cons (IfSettle IsOwn) (settle x) [] own (All-nil (IfSettle IsOwn)))

  hours_own : (hours : List ℕ) (l : Kept) (step : Step StandingView) → IsHoursStep c hours l step
      → AllSettles IsOwn (events_in step)
  hours_own [] l step is =
      subst (AllSettles IsOwn) (sym (ap events_in is))
      (All-cons (IfSettle IsOwn) (waits c l.machine.queue) [] tt (All-nil (IfSettle IsOwn)))
  hours_own (hour ∷ hours) l step is =
      by is.made.end is.goes_on (λ more right. hours_own hours is.kept more right)
    where
      own : IsOwn is.made
      own = ap (λ (s : Settle). s.circuit) is.is.settle_is

      by : (end : SettleEnd) → IsBehind is.made end (λ s. IsHoursStep c hours is.kept s) step
          → ((more : Step StandingView) → IsHoursStep c hours is.kept more → AllSettles IsOwn (events_in more))
          → AllSettles IsOwn (events_in step)
      by settled h go =
          subst (AllSettles IsOwn) (sym (ap events_in h.step_is)) (settle_first is.made h.more own (go h.more h.right))
      by (failed f) h go = settle_alone is.made step own (ap events_in h)
      by (without_certificate r f) h go = settle_alone is.made step own (ap events_in h)

  solution_own : (step : Step StandingView) → IsSolutionStep (standing c no_positions 0) step
      → AllSettles IsOwn (events_in step)
  unfolding IsSolutionStep
  solution_own step is = hours_own (hours_of c.options) (kept_first (standing c no_positions 0)) step is

-- ---- a history

abbrev AreStudies : History → Type 0
AreStudies h = AllSettles IsStudy h.events

none_studied : (h other : History) → h ≡ other → other.events ≡ [] → AreStudies h
none_studied h other is none =
    subst (AllSettles IsStudy) (sym (ap (λ (x : History). x.events) is ∙ none)) (All-nil (IfSettle IsStudy))

after_solution : (step : Step StandingView) (h : History) → AfterStep step (λ s more. more ≡ event.finishes []) h
    → h.events ≡ events_in step
after_solution (goes events t) h is =
    ap (λ (x : History). x.events) is.h_is ∙ ap (λ (x : History). events ++ x.events) is.right ∙ append-nil events
after_solution (ends events f) h is = ap (λ (x : History). x.events) is

-- the records of the phases are no settles
rows_studied : (rows : List (List (List ℕ))) (events : List Event) → AllByRecursion (IfSettle IsStudy) events
    → AllByRecursion (IfSettle IsStudy) (map row rows ++ events)
rows_studied [] events h = h
rows_studied (r ∷ rows) events h = (tt, rows_studied rows events h)

with_phases : (events : List Event) → AllByRecursion (IfSettle IsStudy) events
    → AllByRecursion (IfSettle IsStudy) (behind_settles its_phases events)
with_phases [] h = tt
with_phases (settle s ∷ events) h =
    (h.0, rows_studied (short_rows s) (behind_settles its_phases events) (with_phases events h.1))
with_phases (asked n ∷ events) h = (tt, with_phases events h.1)
with_phases (waits c es ∷ events) h = (tt, with_phases events h.1)
with_phases (swept c m l ∷ events) h = (tt, with_phases events h.1)
with_phases (row fields ∷ events) h = (tt, with_phases events h.1)
with_phases (event.line text ∷ events) h = (tt, with_phases events h.1)

phases_studied : (step : Step StandingView) → AllSettles IsStudy (events_in step)
    → AllSettles IsStudy (events_in (step_with its_phases (λ s. s) step))
phases_studied (goes events t) all =
    All-from_recursion (IfSettle IsStudy) (behind_settles its_phases events)
    (with_phases events (recursion_from_All (IfSettle IsStudy) events all))
phases_studied (ends events f) all =
    All-from_recursion (IfSettle IsStudy) (behind_settles its_phases events)
    (with_phases events (recursion_from_All (IfSettle IsStudy) events all))

in_snapshot : (o : Options) → OptionsInRange o → OptionsInRange (record o { mode = mode.Snapshot })
in_snapshot o h = record {
  number = h.number;
  maxiterations = h.maxiterations;
  tolerance = h.tolerance;
  maxcontroliter = h.maxcontroliter;
  voltagebases = h.voltagebases;
  defaultbasefrequency = h.defaultbasefrequency;
}

module _ (law : SolutionLaw) (s : ShortingView) (limits : IsWithinLimits s.circuit.elements s.circuit.options)
    (room : weight s.circuit ≤ 1_048_578) (passed : HasPassed s.circuit)
    (there : first_missing s.circuit.elements s.bus s.kind ≡ None) where
  placed_studied : (k : ℕ) → first_free s.circuit.elements ≡ Some k
      → first_too_many (fault_elements s.circuit.elements s.bus s.kind k) ≡ None
      → (h : History) → IsSolvedOnce (snapshot (fault_circuit_of s.circuit s.bus s.kind k)) h → AreStudies h
  placed_studied k free few h is =
      let c = snapshot (fault_circuit_of s.circuit s.bus s.kind k) in
      let ready = fault_passed s.circuit s.bus s.kind k passed there few in
      let within =
      fault_within s.circuit s.bus s.kind k limits there (is_first s.circuit.elements k free)
      (omega (arith, room)) in
      let linear = is_linear s.circuit s.bus s.kind k in
      let made = is.right in
      let own = solution_own c linear made.solved made.right in
      let solved =
      law c no_positions 0 made.solved
      (record { no_own = ready.no_own; not_many = ready.not_many; all_fed = ready.all_fed })
      (record {
        well_formed = within.well_formed;
        few = within.few;
        elements_in_range = within.elements_in_range;
        options_in_range = in_snapshot s.circuit.options within.options_in_range;
      }) (All-nil AreTaps) (omega arith) made.right in
      subst (AllSettles IsStudy) (sym (after_solution is.step h is.goes_on ∙ ap events_in made.step_is))
      (phases_studied made.solved (all_studies c linear (events_in made.solved) own solved))

  within_studied : (k : ℕ) → first_free s.circuit.elements ≡ Some k → (past : Option ℕ)
      → first_too_many (fault_elements s.circuit.elements s.bus s.kind k) ≡ past
      → (h : History) → IsWithin s k past h → AreStudies h
  within_studied k free None e h is = placed_studied k free e h is
  within_studied k free (Some place) e h is = none_studied h _ is refl

  free_studied : (number : Option ℕ) → first_free s.circuit.elements ≡ number → (h : History) → IsPlaced s number h
      → AreStudies h
  free_studied None e h is = none_studied h _ is refl
  free_studied (Some k) e h is =
      within_studied k e (first_too_many (fault_elements s.circuit.elements s.bus s.kind k)) refl h is

module _ (law : SolutionLaw) (s : ShortingView) (limits : IsWithinLimits s.circuit.elements s.circuit.options)
    (room : weight s.circuit ≤ 1_048_578) where
  asked_studied : HasPassed s.circuit → (missing : Option ℕ) → first_missing s.circuit.elements s.bus s.kind ≡ missing
      → (h : History) → IsAsked s missing h → AreStudies h
  asked_studied passed (Some number) e h is = none_studied h _ is refl
  asked_studied passed None e h is =
      free_studied law s limits room passed e (first_free s.circuit.elements) refl h is

  tests_studied : (answer : Result Unit Blame) → IsTested s.circuit answer → (h : History) → IsByTests s answer h
      → AreStudies h
  tests_studied (Err blame) right h is = none_studied h _ is refl
  tests_studied (Ok done) right h is = asked_studied right (first_missing s.circuit.elements s.bus s.kind) refl h is

  circuit_studied : (b : Bool) (h : History) → IsByCircuit s b h → AreStudies h
  circuit_studied false h is = none_studied h _ is refl
  circuit_studied true h is = tests_studied is.answer is.right h is.then_is

-- ---- a script

module _ (limits : LimitsLaw) (law : SolutionLaw) (held_as : List ℕ → Option (List ℕ)) where
  abbrev IsFrom : List Said → ScriptEnd → ShortingView → History → Type 0
  IsFrom said end s h = IsHistory IsShortingStep no_shorting_name IsShorted held_as said end s h

  step_studied : (more : List Said) (end : ScriptEnd) (step other : Step ShortingView) (h : History) → step ≡ other
      → AfterStep step (λ t x. IsFrom more end t x) h
      → (AfterStep other (λ t x. IsFrom more end t x) h → AreStudies h) → AreStudies h
  step_studied more end step other h same is go =
      go (subst (λ (st : Step ShortingView). AfterStep st (λ t x. IsFrom more end t x) h) same is)

  all_from : (said : List Said) (end : ScriptEnd) (s : ShortingView) (h : History)
      → IsWithinLimits s.circuit.elements s.circuit.options → weight s.circuit + room_of said ≤ 1_048_578
      → IsFrom said end s h → AreStudies h
  all_from [] at_its_end s h within room is =
      circuit_studied law s within (omega (arith, room)) (has_circuit s.circuit.elements) h is
  all_from [] (refused_at place x) s h within room is = none_studied h _ is refl
  all_from (name n ∷ more) end s h within room is =
      subst AreStudies (sym is.h_is)
      (All-cons (IfSettle IsStudy) (asked n) is.more.events tt (all_from more end s is.more within room is.right))
  all_from (command c ∷ more) end s h within room is =
      by (applied c s.circuit) refl (λ d k left x right. all_from more end (record s { circuit = d }) x k left right)
    where
      by : (r : Result CircuitView ModelFault) → applied c s.circuit ≡ r
          → ((d : CircuitView) → IsWithinLimits d.elements d.options → weight d + room_of more ≤ 1_048_578
          → (x : History) → IsFrom more end (record s { circuit = d }) x → AreStudies x)
          → AreStudies h
      by (Err why) e go =
          let one = one_short_step c s in
          step_studied more end is.step _ h
          (one.only is.step is.right ∙ sym (one.only _ (refused_step c s why e))) is.goes_on
          (λ last. none_studied h _ last refl)
      by (Ok d) e go =
          let one = one_short_step c s in
          let takes : Takes c.verb s.circuit d = verb_takes c.place c.verb s.circuit d e in
          let kept = limits c s.circuit d e (omega (arith, room)) within in
          step_studied more end is.step _ h
          (one.only is.step is.right ∙ sym (one.only _ (taken_step c s d e))) is.goes_on
          (λ last. subst AreStudies (sym last.h_is)
          (go d kept.within (omega (arith, takes.room, room)) last.more last.right))

pub all_studied : LimitsLaw → SaidRoomLaw → SolutionLaw → StudiedLaw
all_studied limits rooms law files master bus kind h is =
    let p = said_of files master in
    let few = rooms files master in
    all_from limits law (λ n. held files (bytes n)) p.said (ended_by p.left)
    (shorting empty_circuit master (lower bus) kind) h
    none_within (omega (arith, few)) is
