-- Where the loop over a Solve's hours stands, how it goes on and how it ends.
use Rattle.std.proofs.Common.{◌≡◌, ◌∙◌, ℕ, Bool, true, false, List, [], ◌∷◌, ◌++◌, map, Option, Some, None, refl, sym}
use Rattle.std.proofs.Common.{ap, subst, inl, inr}
use Rattle.std.specs.Prelude.{◌||◌}
use Rattle.std.proofs.lemmas.List.{append_assoc, append-nil}
use Rattle.std.proofs.lemmas.List.Sums.{fold-append}
use Rattle.dss_commands.specs.dss_model.declared.command.Blame.{Blame}
use Rattle.dss_commands.specs.dss_circuit.Circuit.{CircuitView}
use Rattle.fd_daily.specs.Day.{DayView, before_first, hours_left}
use Rattle.fd_daily.specs.Hours.{hours_of}
use Rattle.fd_pages.specs.fd_report.declared.faults.Cause.TheVariants as cause
use Rattle.fd_pages.specs.fd_report.declared.faults.Fault.{Fault}
use Rattle.fd_pages.specs.fd_report.declared.faults.Fault.TheVariants as fault
use Rattle.fd_daily.specs.fd_devices.declared.settings.Positions.{Positions as CodePositions}
use Rattle.fd_daily.specs.fd_queue.Controls.{Positions}
use Rattle.fd_daily.specs.fd_queue.Machine.{Machine}
use Rattle.fd_daily.specs.fd_sample.Probes.{positions_in}
use Rattle.fd_daily.specs.fd_settle.Computed.{range, stopped}
use Rattle.fd_daily.specs.fd_settle.declared.round.Round.{Round as Made}
use Rattle.fd_pages.specs.fd_outcome.Behind.{behind, has_text}
use Rattle.fd_pages.specs.fd_outcome.Calls.{Call, Style, body, calls_in, fault_text, opened, reads, writes}
use Rattle.fd_pages.specs.fd_outcome.Done.{IsDone, IsFrontOf}
use Rattle.fd_pages.specs.fd_outcome.Events.{Event, settle, waits}
use Rattle.fd_pages.specs.fd_outcome.Parts.{EndsAt, IsCutIn, Printed, Wrote, events_in, fault_doing}
use Rattle.fd_pages.specs.fd_outcome.Settles.{Settle, SettleEnd, settled, failed, without_certificate}
use Rattle.fd_pages.specs.fd_outcome.Way.{whole}
use Rattle.fd_pages.specs.fd_outcome.Work.{Step, goes, ends}
use Rattle.fd_pages.proofs.CallerLemmas.fd_outcome.{behind-append, front_then, made_after, nothing_behind, or_false}
use Rattle.fd_pages.proofs.CallerLemmas.fd_outcome.{printed_then, text_behind, wrote_nothing, wrote_then}
use Rattle.fd_solving.specs.Answered.{IsMadeHour, kept_in}
use Rattle.fd_solving.specs.Tallies.{tallied, tally_of, GoesOnTallied}
use Rattle.fd_solving.specs.Printing.{EndsInHour, IsPrintedHour, begun_behind, fault_of, settle_calls}
use Rattle.fd_daily.specs.Underway.{blame_first, plant_at, start_from}
use Rattle.fd_pages.specs.Hours.{Kept, hour_settle}
use Rattle.fd_daily.proofs.CallerLemmas.{begun_at}
use Rattle.fd_solving.specs.Solving.{IsBehind, IsHour, IsHoursStep, IsSolutionStep, begun_by, kept_by, kept_first}
use Rattle.fd_solving.specs.Steps.{StandingView, behind_events, standing}
use Rattle.fd_solving.specs.declared.faults.Failure.{Failure}
use Rattle.fd_solving.specs.declared.tally.Tally.{Tally}
use Rattle.fd_solving.proofs.Tests.{one_hours}

-- ---- events before a step

behind_none : (step : Step StandingView) → behind_events [] step ≡ step
behind_none (goes events s) = refl
behind_none (ends events f) = refl

behind_both : (a b : List Event) (step : Step StandingView)
    → behind_events a (behind_events b step) ≡ behind_events (a ++ b) step
behind_both a b (goes events s) = ap (λ l. goes l s) (sym (append_assoc a b events))
behind_both a b (ends events f) = ap (λ l. ends l f) (sym (append_assoc a b events))

pub events_behind : (a : List Event) (step : Step StandingView) → events_in (behind_events a step) ≡ a ++ events_in step
events_behind a (goes events s) = refl
events_behind a (ends events f) = refl

-- ---- calls

-- the calls of events, and then of more
behind_all : (style : Style) (begun b : Bool) (events more : List Event) → b ≡ (begun || has_text (body style events))
    → behind style begun events ++ behind style b more ≡ behind style begun (events ++ more)
behind_all style begun b events more is =
    ap (λ (t : Bool). behind style begun events ++ behind style t more) is ∙ sym (behind-append style begun events more)

-- of a settle
behind_more : (style : Style) (begun b : Bool) (events : List Event) (x : Settle)
    → b ≡ (begun || has_text (body style events))
    → behind style begun events ++ settle_calls style b x ≡ behind style begun (events ++ settle x ∷ [])
behind_more style begun b events x is = behind_all style begun b events (settle x ∷ []) is

-- nothing of a settle without a text
no_calls : (style : Style) (b : Bool) (x : Settle) → style.asked_in (settle x) ≡ [] → style.texts_in (settle x) ≡ []
    → settle_calls style b x ≡ []
no_calls style b x silent none = by b
  where
    no_body : body style (settle x ∷ []) ≡ []
    no_body = append-nil (calls_in style (settle x))
        ∙ ap (λ l. map reads l ++ map writes (style.texts_in (settle x))) silent ∙ ap (map writes) none

    by : (t : Bool) → settle_calls style t x ≡ []
    by true = no_body
    by false = ap (opened style.opening) no_body

-- a settle that ended with this fault ends the step
behind_failed : (x : Settle) (end : SettleEnd) (f : Fault) (rest : Step StandingView → Type 0) → fault_of end ≡ Some f
    → IsBehind x end rest (ends (settle x ∷ []) f)
behind_failed x settled f rest h = absurd (let no : None ≡ Some f = h in cc no)
behind_failed x (failed e) f rest h =
    ap (λ (k : Fault). (let s : Step StandingView = ends (settle x ∷ []) k in s))
    (let same : Some e ≡ Some f = h in let is : f ≡ e = cc same in is)
behind_failed x (without_certificate r e) f rest h =
    ap (λ (k : Fault). (let s : Step StandingView = ends (settle x ∷ []) k in s))
    (let same : Some e ≡ Some f = h in let is : f ≡ e = cc same in is)

-- ---- the loop

module _ (style : Style) (c : CircuitView) (first : List ℕ) (l : Kept) {S : Type 0} (taken : S → List ℕ)
    (calls : S → ℕ) (old : S) (begun : Bool) (none_yet : Tally) where
  abbrev IsFirst : Step StandingView → Type 0
  IsFirst step = IsHoursStep c first l step

  -- These events lead from the first hour to the hours that are left, and what is kept for them: whatever step follows
  -- here, the Solve's is that step behind these events. Their texts are written, and their rounds are added
  -- to those before.
  pub record HourWay (left : List ℕ) (k : Kept) (now : S) (b : Bool) (t : Tally) : Type 0 where
    pub events : List Event
    pub leads : (step : Step StandingView) → IsHoursStep c left k step
        → IsHoursStep c first l (behind_events events step)
    pub wrote : Wrote taken calls old now (whole (behind style begun events))
    pub begun_is : b ≡ (begun || has_text (body style events))
    pub added : t ≡ tally_of none_yet events

  pub way_start : HourWay first l old begun none_yet
  way_start = record {
    events = [];
    leads = λ step is. subst IsFirst (sym (behind_none step)) is;
    wrote = subst (λ cs. Wrote taken calls old old (whole cs)) (sym (nothing_behind style begun))
        (wrote_nothing taken calls old);
    begun_is = sym (or_false begun);
    added = refl;
  }

  -- memory runs out between two texts
  pub way_short : (left : List ℕ) (k : Kept) (now : S) (b : Bool) (t : Tally) → HourWay left k now b t
      → (new : S) (code : ℕ) → Wrote taken calls now new (whole []) → code ≡ 1
      → EndsAt style IsFirst taken calls old new begun code
  way_short left k now b t way new code none is =
      let rest = one_hours c left k in
      let nothing : IsCutIn taken calls now new [] code = record {
        made = whole [];
        front = inl (record { rest = []; calls = refl; torn = refl; status_is = is });
        left = λ e. refl;
        wrote = none;
      } in
      let made = made_after (behind style begun way.events) (whole []) in
      let cut = front_then taken calls old now new (behind style begun way.events) [] code way.wrote nothing in
      record {
        step = behind_events way.events rest.some;
        right = way.leads rest.some rest.is;
        made = made;
        shown = way.events;
        hidden = events_in rest.some;
        events_are = events_behind way.events rest.some;
        done = inr (subst (λ cs. IsFrontOf cs code made) (append-nil (behind style begun way.events)) cut.0);
        wrote = cut.1;
      }

  module _ (hour : ℕ) (left : List ℕ) (k : Kept) (now : S) (b : Bool) (t : Tally)
      (way : HourWay (hour ∷ left) k now b t) (x : Settle) (kept : Kept) (is : IsHour c hour k x kept) where
    abbrev more : List Event
    more = way.events ++ settle x ∷ []

    calls_more : behind style begun way.events ++ settle_calls style b x ≡ behind style begun more
    calls_more = behind_more style begun b way.events x way.begun_is

    -- whatever follows an hour that ended well
    leads_on : x.end ≡ settled → (step : Step StandingView) → IsHoursStep c left kept step
        → IsFirst (behind_events more step)
    leads_on well step h =
        let next : IsBehind x settled (λ s. IsHoursStep c left kept s) (behind_events (settle x ∷ []) step) =
        record { more = step; right = h; step_is = refl } in
        let here : IsBehind x x.end (λ s. IsHoursStep c left kept s) (behind_events (settle x ∷ []) step) =
        subst (λ e. IsBehind x e (λ s. IsHoursStep c left kept s) (behind_events (settle x ∷ []) step))
        (sym well) next in
        subst IsFirst (behind_both way.events (settle x ∷ []) step)
        (way.leads (behind_events (settle x ∷ []) step) (record { made = x; kept = kept; is = is; goes_on = here }))

    way_more : x.end ≡ settled → (new : S) (after : Bool) → Wrote taken calls now new (whole (settle_calls style b x))
        → after ≡ begun_behind style b x → (u : Tally) → u ≡ tallied t (settle x) → HourWay left kept new after u
    way_more well new after wrote now_begun u more_rounds = record {
      events = more;
      leads = leads_on well;
      wrote = subst (λ cs. Wrote taken calls old new (whole cs)) calls_more
          (wrote_then taken calls old now new (behind style begun way.events) (whole (settle_calls style b x))
          way.wrote wrote);
      begun_is = now_begun ∙ ap (λ y. y || has_text (body style (settle x ∷ []))) way.begun_is
          ∙ text_behind style begun way.events (settle x ∷ []);
      added = more_rounds ∙ ap (λ (y : Tally). tallied y (settle x)) way.added
          ∙ sym (fold-append tallied none_yet way.events (settle x ∷ []));
    }

    -- cut short within its texts
    way_cut : x.end ≡ settled → (new : S) (code : ℕ) → IsCutIn taken calls now new (settle_calls style b x) code
        → EndsAt style IsFirst taken calls old new begun code
    way_cut well new code cut =
        let rest = one_hours c left kept in
        let made = made_after (behind style begun way.events) cut.made in
        let all = front_then taken calls old now new (behind style begun way.events)
        (settle_calls style b x) code way.wrote cut in
        record {
          step = behind_events more rest.some;
          right = leads_on well rest.some rest.is;
          made = made;
          shown = more;
          hidden = events_in rest.some;
          events_are = events_behind more rest.some;
          done = inr (subst (λ cs. IsFrontOf cs code made) calls_more all.0);
          wrote = all.1;
        }

    way_failed : (f : Fault) → fault_of x.end ≡ Some f → (new : S) (code : ℕ)
        → Printed taken calls now new true
        (record { calls = settle_calls style b x ++ writes (fault_text f) ∷ []; end = Some f }) code
        → EndsAt style IsFirst taken calls old new begun code
    way_failed f ill new code printed =
        let last : List Call = writes (fault_text f) ∷ [] in
        let all = printed_then taken calls true old now new (behind style begun way.events)
        (settle_calls style b x ++ last) (Some f) code way.wrote printed in
        let step : Step StandingView = ends (settle x ∷ []) f in
        record {
          step = ends more f;
          right = way.leads step
              (record {
                made = x;
                kept = kept;
                is = is;
                goes_on = behind_failed x x.end f
                    (λ s. IsHoursStep c left kept s) ill;
              });
          made = all.made;
          shown = more;
          hidden = [];
          events_are = sym (append-nil more);
          done = inl (
            refl,
            subst (λ cs. IsDone true (record { calls = cs; end = Some f }) code all.made)
                (sym (append_assoc (behind style begun way.events) (settle_calls style b x) last)
                ∙ ap (λ cs. cs ++ last) calls_more)
                all.done,
          );
          wrote = all.wrote;
        }

  module _ (hour : ℕ) (left : List ℕ) (k : Kept) (now : S) (b : Bool) (t : Tally)
      (way : HourWay (hour ∷ left) k now b t) where
    -- behind an hour that is printed
    pub way_printed : (kept : Kept) (new : S) (after : Bool) (u : Tally)
        → IsPrintedHour style taken calls now new b c hour k kept after t u → HourWay left kept new after u
    way_printed kept new after u p =
        way_more hour left k now b t way p.made kept p.is p.well new after p.wrote p.begun_is u p.added

    -- the run ends in an hour
    pub way_ended : (new : S) (code : ℕ) → EndsInHour style taken calls now new b c hour k code
        → EndsAt style IsFirst taken calls old new begun code
    way_ended new code e = elim e [
      | inl short ↦ way_short (hour ∷ left) k now b t way new code short.wrote short.code_is
      | inr more ↦ elim more [
        | inl p ↦ way_cut hour left k now b t way p.made p.kept p.is p.well new code p.cut
        | inr p ↦ way_failed hour left k now b t way p.made p.kept p.is p.fault p.ill new code p.printed
      ]
    ]

    -- the network with which it starts is out of range
    range_there : ((s : Settle) → style.asked_in (settle s) ≡ [])
        → ((s : Settle) (f : Fault) → s.rounds ≡ [] → s.end ≡ failed f → style.texts_in (settle s) ≡ []) →
        (blame : Blame) → (plant_at c hour).blame k.machine.at ≡ Some blame → (new : S) (code : ℕ)
        → Printed taken calls now new true (fault_doing (fault.Script blame.place (cause.Model blame.cause))) code
        → EndsAt style IsFirst taken calls old new begun code
    range_there silent unshown blame here new code printed =
        let f : Fault = fault.Script blame.place (cause.Model blame.cause) in
        let m = (begun_by c hour k).machine in
        let none : Settle = hour_settle c hour (begun_by c hour k) [] (failed f) m.at in
        let nothing : settle_calls style b none ≡ [] = no_calls style b none (silent none) (unshown none f refl refl) in
        way_failed hour left k now b t way none (kept_by k m) (record {
          rounds = [];
          ending = range blame;
          machine = m;
          computed = (ap (λ (at : Positions). (plant_at c hour).blame at) (begun_at c hour k.machine) ∙ here, refl);
          end = failed f;
          end_is = refl;
          settle_is = refl;
          kept = refl;
        }) f refl new code (subst (λ cs. Printed taken calls now new true (record {
          calls = cs ++ writes (fault_text f) ∷ [];
          end = Some f;
        }) code) (sym nothing) printed)

  -- the network of the first of the hours that are left is out of range
  pub way_range : ((s : Settle) → style.asked_in (settle s) ≡ [])
      → ((s : Settle) (f : Fault) → s.rounds ≡ [] → s.end ≡ failed f → style.texts_in (settle s) ≡ []) →
      (left : List ℕ) (k : Kept) (now : S) (b : Bool) (t : Tally) → HourWay left k now b t
      → (blame : Blame) → blame_first c left k.machine.at ≡ Some blame → (new : S) (code : ℕ)
      → Printed taken calls now new true (fault_doing (fault.Script blame.place (cause.Model blame.cause))) code
      → EndsAt style IsFirst taken calls old new begun code
  way_range silent unshown [] k now b t way blame here new code printed = absurd (cc here)
  way_range silent unshown (hour ∷ left) k now b t way blame here new code printed =
      range_there hour left k now b t way silent unshown blame here new code printed

  -- all hours are done, and the entries that still wait are printed
  module _ (left : List ℕ) (k : Kept) (now : S) (b : Bool) (t : Tally) (none : left ≡ [])
      (way : HourWay left k now b t) where
    abbrev waiting : List Event
    waiting = waits c k.machine.queue ∷ []

    abbrev all : List Event
    all = way.events ++ waiting

    last_step : IsFirst (goes all (standing c k.machine.at k.settled))
    last_step =
        let step : Step StandingView = goes waiting (standing c k.machine.at k.settled) in
        way.leads step (subst (λ hours. IsHoursStep c hours k step) (sym none) refl)

    all_calls : behind style begun way.events ++ behind style b waiting ≡ behind style begun all
    all_calls = behind_all style begun b way.events waiting way.begun_is

    pub way_done : (new : S) (after : Bool) → Wrote taken calls now new (whole (behind style b waiting))
        → after ≡ (b || has_text (body style waiting))
        → GoesOnTallied style IsFirst (standing c k.machine.at k.settled) taken calls old new begun after none_yet t
    way_done new after wrote now_begun = record {
      on = record {
        events = all;
        right = last_step;
        wrote = subst (λ cs. Wrote taken calls old new (whole cs)) all_calls
            (wrote_then taken calls old now new (behind style begun way.events)
            (whole (behind style b waiting)) way.wrote wrote);
        begun_is = now_begun ∙ ap (λ y. y || has_text (body style waiting)) way.begun_is
            ∙ text_behind style begun way.events waiting;
      };
      added = way.added
          ∙ sym (fold-append tallied none_yet way.events waiting);
    }

    -- or cut short
    pub way_done_cut : (new : S) (code : ℕ) → IsCutIn taken calls now new (behind style b waiting) code
        → EndsAt style IsFirst taken calls old new begun code
    way_done_cut new code cut =
        let made = made_after (behind style begun way.events) cut.made in
        let done =
        front_then taken calls old now new (behind style begun way.events)
        (behind style b waiting) code way.wrote cut in
        record {
          step = goes all (standing c k.machine.at k.settled);
          right = last_step;
          made = made;
          shown = all;
          hidden = [];
          events_are = sym (append-nil all);
          done = inr (subst (λ cs. IsFrontOf cs code made) all_calls done.0);
          wrote = done.1;
        }

-- ---- an hour as the code has it

pub made_as : (c : CircuitView) (hour h : ℕ) (l : Kept) (rounds rs : List Made) (f : Option Failure) (k : Kept)
    → hour ≡ h → rs ≡ rounds → IsMadeHour c hour l rounds f k → IsMadeHour c h l rs f k
made_as c hour h l rounds rs f k same_hour same made =
    subst (λ (x : List Made). IsMadeHour c h l x f k) (sym same)
    (subst (λ (n : ℕ). IsMadeHour c n l rounds f k) same_hour made)

-- the hours of a Solve are its step
pub first_step : (s : StandingView) (step : Step StandingView)
    → IsHoursStep s.circuit (hours_of s.circuit.options) (kept_first s) step → IsSolutionStep s step
unfolding IsSolutionStep
first_step s step h = h

pub solution_step : (c : CircuitView) (before : Positions) (n : ℕ) (m : Machine) (at : CodePositions) (day : DayView)
    → positions_in at ≡ start_from c before → m ≡ before_first c (positions_in at)
    → hours_left day ≡ hours_of c.options → (step : Step StandingView)
    → IsHoursStep c (hours_left day) (kept_in m n) step → IsSolutionStep (standing c before n) step
solution_step c before n m at day start machine left step h =
    let kept : kept_in m n ≡ kept_first (standing c before n) =
    ap (λ (x : Machine). (let k : Kept = record { machine = x; settled = n } in k))
    (machine ∙ ap (before_first c) start) in
    first_step (standing c before n) step
    (subst (λ (hs : List ℕ). IsHoursStep c hs (kept_first (standing c before n)) step) left
    (subst (λ (l : Kept). IsHoursStep c (hours_left day) l step) kept h))
