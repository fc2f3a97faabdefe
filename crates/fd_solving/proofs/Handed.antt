-- What a command's answer comes to for the loop.
use Rattle.std.proofs.Common.{◌≡◌, ◌∙◌, ◌≤◌, ℕ, Bool, true, false, List, [], ◌∷◌, ◌++◌, map, length, Option, Some, None}
use Rattle.std.proofs.Common.{Ok, Err, refl, sym, ap, subst, inl, inr, arith}
use Rattle.std.specs.Prelude.{◌||◌, ◌⊎◌, is_some}
use Rattle.std.specs.List.{AllByRecursion, flat_map}
use Rattle.std.proofs.lemmas.List.{append-nil, map-append}
use Rattle.fd_pages.specs.fd_outside.Emitted.{Takes, pieces_of}
use Rattle.fd_pages.specs.fd_outside.declared.bytes.Record.{Record}
use Rattle.fd_pages.specs.fd_report.Faults.{status}
use Rattle.dss_commands.specs.dss_circuit.Circuit.{CircuitView}
use Rattle.fd_daily.specs.fd_queue.Controls.{Positions}
use Rattle.fd_pages.specs.fd_report.declared.faults.Cause.TheVariants as cause
use Rattle.fd_pages.specs.fd_report.declared.faults.Fault.{Fault}
use Rattle.fd_pages.specs.fd_report.declared.faults.Fault.TheVariants as fault
use Rattle.fd_pages.specs.fd_bases.declared.bus_base.BusBase.{BusBase}
use Rattle.fd_pages.specs.fd_report.Bases.{base_fields}
use Rattle.fd_pages.specs.fd_outcome.Events.{Event, History, finishes, row}
use Rattle.fd_pages.specs.fd_outcome.Work.{Step, ExactlyOne, goes, ends}
use Rattle.fd_pages.specs.fd_outcome.Calls.{Call, Style, body, fault_text, opened, reads, writes}
use Rattle.fd_pages.specs.fd_outcome.Done.{IsFrontOf, IsDone, Made}
use Rattle.fd_pages.specs.fd_outcome.Way.{whole}
use Rattle.fd_pages.specs.fd_outcome.Behind.{behind, closes, has_text, opened_unless}
use Rattle.fd_pages.specs.fd_outcome.Parts.{EndsAt, GoesOn, IsCutIn, Printed, Wrote, events_in, fault_doing}
use Rattle.fd_pages.specs.fd_outcome.Untold.{CutsShort}
use Rattle.fd_pages.proofs.CallerLemmas.fd_outcome.{cut_before, not_empty, nothing_behind, or_false, wrote_all}
use Rattle.fd_pages.proofs.CallerLemmas.fd_outcome.{wrote_nothing}
use Rattle.fd_pages.specs.Bases.{base_events}
use Rattle.fd_solving.specs.Answered.{IsAnswerOf, IsAnswered, IsOfCommand}
use Rattle.fd_solving.specs.Commands.{Applied, IsStepOf, bases_left, nothing_left, refused_at, solve_left}
use Rattle.fd_solving.specs.declared.answer.Answer.{Answer}
use Rattle.fd_solving.specs.declared.answer.Answer.TheVariants as answer
use Rattle.fd_solving.specs.Steps.{StandingView, changes, standing}
use Rattle.fd_solving.specs.Tallies.{tally_of, GoesOnTallied}
use Rattle.fd_solving.specs.declared.tally.Tally.{Tally}

-- ---- statuses of a command's faults

not_status : (f : Fault) (code n : ℕ) → (status f ≡ n → ⊥) → (1 ≡ n → ⊥) → (5 ≡ n → ⊥)
    → (code ≡ status f) ⊎ CutsShort code → code ≡ n → ⊥
not_status f code n a b c is e = elim is [
  | inl x ↦ a (sym x ∙ e)
  | inr cut ↦ elim cut [ inl x ↦ b (sym x ∙ e) | inr x ↦ c (sym x ∙ e) ]
]

command_status : (f : Fault) → IsOfCommand f → (status f ≡ 2 → ⊥) × (status f ≡ 4 → ⊥)
command_status fault.Usage h = absurd h
command_status (fault.Script place c) h = (λ e. omega (arith, e), λ e. omega (arith, e))
command_status (fault.Read n) h = absurd h
command_status (fault.NoInverse u c) h = (λ e. omega (arith, e), λ e. omega (arith, e))
command_status (fault.OutOfRange u k) h = (λ e. omega (arith, e), λ e. omega (arith, e))
command_status (fault.NotConverged u k d) h = (λ e. omega (arith, e), λ e. omega (arith, e))
command_status (fault.Loose u d) h = (λ e. omega (arith, e), λ e. omega (arith, e))
command_status (fault.NotCertified u k) h = (λ e. omega (arith, e), λ e. omega (arith, e))
command_status (fault.Undecided c l u k x) h = (λ e. omega (arith, e), λ e. omega (arith, e))
command_status (fault.ControlLimit n) h = (λ e. omega (arith, e), λ e. omega (arith, e))
command_status (fault.Certificate line broken) h = (λ e. omega (arith, e), λ e. omega (arith, e))
command_status (fault.NoSuchNode node) h = (λ e. omega (arith, e), λ e. omega (arith, e))
command_status (fault.NotRadial element) h = (λ e. omega (arith, e), λ e. omega (arith, e))

cut_code : (calls : List Call) (code : ℕ) (m : Made) → IsFrontOf calls code m → CutsShort code
cut_code calls code m front = elim front [ inl a ↦ inl a.status_is | inr a ↦ inr a.status_is ]

-- the status of a fault behind these calls, or one that cuts short
ending_code : (calls : List Call) (f : Fault) (code : ℕ) (m : Made)
    → IsDone true (record { calls = calls; end = Some f }) code m → (code ≡ status f) ⊎ CutsShort code
ending_code calls f code m done = elim done [
  | inl all ↦ inl all.status_is
  | inr cut ↦ inr (cut_code calls code m cut.0)
]

module _ {S : Type 0} (taken : S → List ℕ) (calls : S → ℕ) where
  pub never_usage : (old new : S) (all : List Call) (f : Fault) (code : ℕ) → IsOfCommand f
      → Printed taken calls old new true (record { calls = all; end = Some f }) code → code ≡ 2 → ⊥
  never_usage old new all f code h printed =
      not_status f code 2 (command_status f h).0 (λ e. omega (arith, e)) (λ e. omega (arith, e))
      (ending_code all f code printed.made printed.done)

  pub never_read : (old new : S) (all : List Call) (f : Fault) (code : ℕ) → IsOfCommand f
      → Printed taken calls old new true (record { calls = all; end = Some f }) code → code ≡ 4 → ⊥
  never_read old new all f code h printed =
      not_status f code 4 (command_status f h).1 (λ e. omega (arith, e)) (λ e. omega (arith, e))
      (ending_code all f code printed.made printed.done)

  pub cut_never : (n : ℕ) (old new : S) (all : List Call) (code : ℕ) → (1 ≡ n → ⊥) → (5 ≡ n → ⊥)
      → IsCutIn taken calls old new all code → code ≡ n → ⊥
  cut_never n old new all code a b cut e =
      elim cut.front [ inl x ↦ a (sym x.status_is ∙ e) | inr x ↦ b (sym x.status_is ∙ e) ]

-- ---- the answer to a command, for `solve`

of_command : (f g : Fault) → f ≡ g → IsOfCommand g → IsOfCommand f
of_command f g e h = subst IsOfCommand (sym e) h

pub answer_of : (left : Applied) (c : CircuitView) (a : Answer) → IsAnswered left c a → (at : Positions) (n : ℕ)
    → IsAnswerOf at n left c a
answer_of left c answer.Done h at n = subst (λ (l : Applied). IsStepOf at n l (changes (standing c at n))) (sym h) refl
answer_of left c answer.Bases h at n =
    subst (λ (l : Applied). IsStepOf at n l (goes (base_events c) (standing c at n))) (sym h) refl
answer_of left c answer.Solves h at n = (
  h.1,
  λ step is.
      subst (λ (l : Applied). IsStepOf at n l step) (sym h.0) (record { answer = Ok tt; right = h.1; step_is = is }),
)
answer_of (nothing_left x) c (answer.Refuses f) h at n = absurd h
answer_of (bases_left x) c (answer.Refuses f) h at n = absurd h
answer_of (refused_at place x) c (answer.Refuses f) h at n =
    (ap (λ (g : Fault). ends [] g) h, of_command f (fault.Script place x) h tt)
answer_of (solve_left x) c (answer.Refuses f) h at n = (
  record { answer = Err h.blame; right = h.right; step_is = ap (λ (g : Fault). ends [] g) h.fault_is },
  of_command f (fault.Script h.blame.place (cause.Model h.blame.cause)) h.fault_is tt,
)

-- ---- the calls of events that ask for nothing

pub silent_body : (style : Style) (events : List Event) → AllByRecursion (λ e. style.asked_in e ≡ []) events
    → body style events ≡ map writes (flat_map style.texts_in events)
silent_body style [] silent = refl
silent_body style (e ∷ events) silent =
    ap (λ l. (map reads l ++ map writes (style.texts_in e)) ++ body style events) silent.0
    ∙ ap (λ l. map writes (style.texts_in e) ++ l) (silent_body style events silent.1)
    ∙ sym (map-append writes (style.texts_in e) (flat_map style.texts_in events))

-- what opens the texts, and the texts
pub silent_calls : (style : Style) (begun : Bool) (events : List Event) (texts : List (List ℕ))
    → AllByRecursion (λ e. style.asked_in e ≡ []) events → texts ≡ flat_map style.texts_in events
    → opened_unless begun style.opening (map writes texts) ≡ behind style begun events
silent_calls style true events texts silent same = ap (map writes) same ∙ sym (silent_body style events silent)
silent_calls style false events texts silent same =
    ap (λ l. opened style.opening (map writes l)) same
    ∙ ap (opened style.opening) (sym (silent_body style events silent))

-- whether a text was written with them
pub silent_begun : (style : Style) (begun : Bool) (events : List Event) (texts : List (List ℕ))
    → AllByRecursion (λ e. style.asked_in e ≡ []) events → texts ≡ flat_map style.texts_in events
    → (begun || has_text (map writes texts)) ≡ (begun || has_text (body style events))
silent_begun style begun events texts silent same =
    ap (λ l. begun || has_text (map writes l)) same
    ∙ ap (λ l. begun || has_text l) (sym (silent_body style events silent))

-- the texts of one event
pub texts_alone : (style : Style) (e : Event) (texts : List (List ℕ)) → texts ≡ style.texts_in e
    → texts ≡ flat_map style.texts_in (e ∷ [])
texts_alone style e texts same = same ∙ sym (append-nil (style.texts_in e))

pub bases_silent : (style : Style) (bases : List BusBase)
    → ((fields : List (List ℕ)) → style.asked_in (row fields) ≡ [])
    → AllByRecursion (λ e. style.asked_in e ≡ []) (map (λ b. row (base_fields b.bus b.kv)) bases)
bases_silent style [] silent = tt
bases_silent style (b ∷ bases) silent = (silent (base_fields b.bus b.kv), bases_silent style bases silent)

-- texts with what opens them
pub opened_first : (first : List (List ℕ)) (texts : List (List ℕ)) → has_text (map writes texts) ≡ true
    → map writes (first ++ texts) ≡ opened first (map writes texts)
opened_first first [] some = absurd (cc some)
opened_first first (text ∷ texts) some = map-append writes first (text ∷ texts)

pub opened_nothing : (first : List (List ℕ)) (texts : List (List ℕ)) → has_text (map writes texts) ≡ false
    → map writes texts ≡ opened first (map writes texts)
opened_nothing first [] none = refl
opened_nothing first (text ∷ texts) none = absurd (cc none)

-- no piece among none
pub no_pieces : (texts : List (List ℕ)) → map writes texts ≡ [] → texts ≡ []
no_pieces [] e = refl
no_pieces (text ∷ texts) e = cc e

-- where there is what closes the texts, something is printed at the end
not_opened : (begun : Bool) (first : List (List ℕ)) (c : Call) (l : List Call)
    → opened_unless begun first (c ∷ l) ≡ [] → ⊥
not_opened true first c l e = cc e
not_opened false first (reads n) l e = cc e
not_opened false first (writes text) l e = not_empty (map writes first) (writes text) l e

closed_by : (first closing : List (List ℕ)) (begun : Bool) → closes closing ≡ true
    → opened_unless begun first (map writes closing) ≡ [] → ⊥
closed_by first [] begun told e = cc told
closed_by first (text ∷ texts) begun told e = not_opened begun first (writes text) (map writes texts) e

pub closed : (style : Style) (begun : Bool) → closes style.closing ≡ true
    → opened_unless begun style.opening (map writes style.closing) ≡ [] → ⊥
closed style begun told e = closed_by style.opening style.closing begun told e

pub ends_closed : (style : Style) → closes style.closing ≡ true → (h : History) → h ≡ finishes []
    → body style h.events ++ map writes style.closing ≡ [] → ⊥
ends_closed style told h is e =
    closed style true told (sym (ap (λ (x : History). body style x.events ++ map writes style.closing) is) ∙ e)

-- a text is among records
pub some_text : (rs : List Record) → 1 ≤ length rs → has_text (map writes (pieces_of rs)) ≡ true
some_text [] h = absurd (omega (arith, h))
some_text (r ∷ rs) h = refl

-- ---- a settle's calls and then a fault's

module _ {S : Type 0} (taken : S → List ℕ) (calls : S → ℕ) where
  pub failed_whole : (old new : S) (texts : List (List ℕ)) (all : List Call) (f : Fault) (code : ℕ)
      → map writes texts ≡ all → code ≡ status f → Takes taken calls old new texts
      → Printed taken calls old new true (record { calls = all; end = Some f }) code
  failed_whole old new texts all f code same is takes = record {
    made = whole (map writes texts);
    done = inl (record { calls = same; torn = refl; status_is = is });
    wrote = wrote_all taken calls old new texts takes;
  }

  pub ended_whole : (tells : Bool) (old new : S) (texts : List (List ℕ)) (all : List Call) → map writes texts ≡ all
      → Takes taken calls old new texts
      → Printed taken calls old new tells (record { calls = all; end = None }) 0
  ended_whole tells old new texts all same takes = record {
    made = whole (map writes texts);
    done = inl (record { calls = same; torn = refl; status_is = refl });
    wrote = wrote_all taken calls old new texts takes;
  }

  pub wrote_as : (old new : S) (texts : List (List ℕ)) (all : List Call) → map writes texts ≡ all
      → Takes taken calls old new texts → Wrote taken calls old new (whole all)
  wrote_as old new texts all same takes =
      subst (λ l. Wrote taken calls old new (whole l)) same (wrote_all taken calls old new texts takes)

  pub cut_as : (old new : S) (a all : List Call) (code : ℕ) → a ≡ all → IsCutIn taken calls old new a code
      → IsCutIn taken calls old new all code
  cut_as old new a all code same c = subst (λ l. IsCutIn taken calls old new l code) same c

  pub printed_cut : (tells : Bool) (old new : S) (all : List Call) (end : Option Fault) (code : ℕ)
      → ((is_some end || tells) ≡ true → all ≡ [] → ⊥) → IsCutIn taken calls old new all code
      → Printed taken calls old new tells (record { calls = all; end = end }) code
  printed_cut tells old new all end code some c =
      record { made = c.made; done = inr (c.front, λ told e. some told (c.left e)); wrote = c.wrote }

  -- the same calls
  pub printed_as : (tells : Bool) (old new : S) (a all : List Call) (end : Option Fault) (code : ℕ) → a ≡ all
      → Printed taken calls old new tells (record { calls = a; end = end }) code
      → Printed taken calls old new tells (record { calls = all; end = end }) code
  printed_as tells old new a all end code same p =
      subst (λ l. Printed taken calls old new tells (record { calls = l; end = end }) code) same p

-- ---- what a command does

module _ {T S : Type 0} (style : Style) (is_step : Step T → Type 0) (taken : S → List ℕ)
    (calls : S → ℕ) where
  abbrev pub goes_silent : (now : T) (out : S) (begun : Bool) → is_step (goes [] now)
      → GoesOn style is_step now taken calls out out begun begun
  goes_silent now out begun is = record {
    events = [];
    right = is;
    wrote = subst (λ l. Wrote taken calls out out (whole l)) (sym (nothing_behind style begun))
        (wrote_nothing taken calls out);
    begun_is = sym (or_false begun);
  }

  pub goes_changed : (now : T) (out : S) (begun : Bool) (t : Tally) → is_step (goes [] now)
      → GoesOnTallied style is_step now taken calls out out begun begun t t
  goes_changed now out begun t is = record {
    on = goes_silent now out begun is;
    added = refl;
  }

  -- the fault's record stands alone where nothing is printed before it
  fault_behind : (f : Fault) (code : ℕ) (old new : S) (p : Printed taken calls old new true (fault_doing f) code)
      (before : List Call)
      → before ≡ [] → IsDone true (record { calls = before ++ writes (fault_text f) ∷ []; end = Some f }) code p.made
  fault_behind f code old new p before none =
      subst (λ l. IsDone true (record { calls = l ++ writes (fault_text f) ∷ []; end = Some f }) code p.made)
      (sym none) p.done

  pub ends_refused : (old new : S) (begun : Bool) (f : Fault) (code : ℕ) → is_step (ends [] f)
      → Printed taken calls old new true (fault_doing f) code → EndsAt style is_step taken calls old new begun code
  ends_refused old new begun f code is p = record {
    step = ends [] f;
    right = is;
    made = p.made;
    shown = [];
    hidden = [];
    events_are = refl;
    done = inl (refl, fault_behind f code old new p (behind style begun []) (nothing_behind style begun));
    wrote = p.wrote;
  }

  pub ends_without_memory : (out : S) (begun : Bool) → ExactlyOne is_step
      → EndsAt style is_step taken calls out out begun 1
  ends_without_memory out begun one =
      let cut = cut_before taken calls out (behind style begun []) in
      record {
        step = one.some;
        right = one.is;
        made = cut.made;
        shown = [];
        hidden = events_in one.some;
        events_are = refl;
        done = inr cut.front;
        wrote = cut.wrote;
      }

-- ---- events that are no settles

-- bases are no rounds
pub bases_tally : (t : Tally) (bases : List BusBase) → t ≡ tally_of t (map (λ b. row (base_fields b.bus b.kv)) bases)
bases_tally t [] = refl
bases_tally t (b ∷ bases) = bases_tally t bases

module _ {S : Type 0} (style : Style) (is_step : Step StandingView → Type 0) (taken : S → List ℕ)
    (calls : S → ℕ) (now : StandingView) (events : List Event)
    (is : is_step (goes events now)) where
  pub goes_printed : (old new : S) (begun after : Bool) → Wrote taken calls old new (whole (behind style begun events))
      → after ≡ (begun || has_text (body style events)) → (t : Tally) → t ≡ tally_of t events
      → GoesOnTallied style is_step now taken calls old new begun after t t
  goes_printed old new begun after wrote begun_is t none = record {
    on = record { events = events; right = is; wrote = wrote; begun_is = begun_is };
    added = none;
  }

  pub ends_cut : (old new : S) (begun : Bool) (code : ℕ) → IsCutIn taken calls old new (behind style begun events) code
      → EndsAt style is_step taken calls old new begun code
  ends_cut old new begun code cut = record {
    step = goes events now;
    right = is;
    made = cut.made;
    shown = events;
    hidden = [];
    events_are = sym (append-nil events);
    done = inr cut.front;
    wrote = cut.wrote;
  }

-- ---- another step of the same events

module _ {S : Type 0} (style : Style) (taken : S → List ℕ) (calls : S → ℕ)
    (P Q : Step StandingView → Type 0) (weaker : (step : Step StandingView) → P step → Q step) where
  pub tallied_as : (now : StandingView) (old new : S) (begun after : Bool) (t u : Tally)
      → GoesOnTallied style P now taken calls old new begun after t u
      → GoesOnTallied style Q now taken calls old new begun after t u
  tallied_as now old new begun after t u h = record {
    on = record {
      events = h.on.events;
      right = weaker (goes h.on.events now) h.on.right;
      wrote = h.on.wrote;
      begun_is = h.on.begun_is;
    };
    added = h.added;
  }

  pub ends_as : (old new : S) (begun : Bool) (code : ℕ) → EndsAt style P taken calls old new begun code
      → EndsAt style Q taken calls old new begun code
  ends_as old new begun code h = record {
    step = h.step;
    right = weaker h.step h.right;
    made = h.made;
    shown = h.shown;
    hidden = h.hidden;
    events_are = h.events_are;
    done = h.done;
    wrote = h.wrote;
  }
