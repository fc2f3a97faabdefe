-- `bench` at work: its steps are those of `solve`, its history is what it makes of that of `solve`, and nothing is asked of the
-- library.
use Rattle.std.proofs.Common.{◌≡◌, ◌∙◌, ℕ, ◌+◌, Bool, true, false, List, [], ◌∷◌, ◌++◌, map, length, Option, Some, None, refl, sym, ap, subst, inl, inr}
use Rattle.std.specs.List.{concat}
use Rattle.std.specs.Str.{chars}
use Rattle.std.specs.Prelude.{◌||◌, is_some}
use Rattle.std.proofs.lemmas.List.{append_assoc, append_cancel_left, append-nil}
use Rattle.std.proofs.lemmas.List.Sums.{fold-append}
use Rattle.fd_gen.specs.fd_outside.Answers.{Answer, HasFailed, absent, content, failed, names_asked}
use Rattle.fd_gen.specs.fd_outside.Files.{held}
use Rattle.fd_gen.specs.fd_outside.Unfailing.{all_well}
use Rattle.fd_solving.specs.dss_model.Names.{bytes}
use Rattle.fd_solving.specs.dss_model.declared.command.Command.{Command}
use Rattle.fd_solving.specs.dss_script.Said.{Said, ScriptEnd, at_its_end, command, end_in, ended_by, name, refused_at, said_in, said_of}
use Rattle.fd_solving.specs.dss_script.SaidLaws.{SaidLaw}
use Rattle.fd_solving.specs.dss_script.Script.{Script, script_of}
use Rattle.fd_solving.specs.fd_report.declared.faults.Cause.TheVariants as cause
use Rattle.fd_solving.specs.fd_report.declared.faults.Fault.{Fault}
use Rattle.fd_solving.specs.fd_report.declared.faults.Fault.TheVariants as fault
use Rattle.fd_solving.specs.fd_outcome.Behind.{last_calls}
use Rattle.fd_solving.specs.fd_outcome.Calls.{Call, Style, body, calls_in, calls_of, doing, fault_text, names_read, reads, so_far, texts_written, writes}
use Rattle.fd_solving.specs.fd_outcome.Done.{IsCutShort, IsDone, IsFrontOf, Made, Sees, failing, torn_bytes, torn_writes}
use Rattle.fd_solving.specs.fd_outcome.Events.{Event, History, asked, before, ended, finishes, line, row, settle, swept, waits}
use Rattle.fd_solving.specs.fd_outcome.History.{IsHistory}
use Rattle.fd_solving.specs.fd_outcome.Parts.{EndsAt, EndsSo, Finishes, GoesOn, Printed, Wrote, events_in}
use Rattle.fd_solving.specs.fd_outcome.Runs.{Runs}
use Rattle.fd_solving.specs.fd_outcome.Way.{whole}
use Rattle.fd_solving.specs.fd_outcome.Work.{AfterStep, ExactlyOne, Step, ends, goes}
use Rattle.fd_solving.proofs.CallerLemmas.fd_outcome.{IsToldBy, body-append, not_empty, wrote_nothing}
use Rattle.fd_solving.specs.fd_pages.Lines.{lines_of_text}
use Rattle.fd_solving.specs.Tallies.{no_rounds, tallied, tally_of, GoesOnTallied}
use Rattle.fd_solving.specs.Commands.{IsStep}
use Rattle.fd_solving.specs.Scripts.{IsDoneThere, first_standing, no_name}
use Rattle.fd_solving.specs.Steps.{StandingView}
use Rattle.fd_solving.specs.declared.tally.Tally.{Tally}
use Rattle.fd_bench.specs.Alone.{RunsAlone}
use Rattle.fd_bench.specs.Bench.{bench_behind, bench_of, feeder_files, feeder_name, lines_alone, tally_text, IsBenchHistory}
use Rattle.fd_bench.specs.Benching.{BenchView, IsBenchLast, IsBenchStep, bench_at, no_bench_name, with_tally}
use Rattle.fd_solving.proofs.CallerLemmas.{one_script, one_step}
use Rattle.fd_bench.proofs.Alone.{opened_none}

-- ---- a step

pub one_bench_step : (c : Command) (s : BenchView) → ExactlyOne (IsBenchStep c s)
one_bench_step c s =
    let one = one_step c s.standing in
    record {
      some = with_tally s.sections s.tally one.some;
      is = record { solving = one.some; right = one.is; step_is = refl };
      only = λ step h. h.step_is ∙ ap (with_tally s.sections s.tally) (one.only h.solving h.right);
    }

same_events : (sections : ℕ) (t : Tally) (step : Step StandingView)
    → events_in (with_tally sections t step) ≡ events_in step
same_events sections t (goes events s) = refl
same_events sections t (ends events f) = refl

ends_so : (sections : ℕ) (t : Tally) (style : Style) (begun : Bool) (step : Step StandingView) (code : ℕ) (m : Made)
    → EndsSo style begun step code m → EndsSo style begun (with_tally sections t step) code m
ends_so sections t style begun (goes events s) code m h = h
ends_so sections t style begun (ends events f) code m h = h

module _ {S : Type 0} (taken : S → List ℕ) (calls : S → ℕ) (c : Command) (s : BenchView) where
  pub bench_goes : (now : StandingView) (t : Tally) (old new : S) (begun after : Bool)
      → GoesOnTallied lines_of_text (IsStep c s.standing) now taken calls old new begun after s.tally t
      → GoesOn lines_of_text (IsBenchStep c s) (bench_at s.sections t now) taken calls old new begun after
  bench_goes now t old new begun after h = record {
    events = h.on.events;
    right = record {
      solving = goes h.on.events now;
      right = h.on.right;
      step_is = ap (λ (u : Tally). (let step : Step BenchView = goes h.on.events (bench_at s.sections u now) in step))
          h.added;
    };
    wrote = h.on.wrote;
    begun_is = h.on.begun_is;
  }

  pub bench_ends : (old new : S) (begun : Bool) (code : ℕ)
      → EndsAt lines_of_text (IsStep c s.standing) taken calls old new begun code
      → EndsAt lines_of_text (IsBenchStep c s) taken calls old new begun code
  bench_ends old new begun code h = record {
    step = with_tally s.sections s.tally h.step;
    right = record { solving = h.step; right = h.right; step_is = refl };
    made = h.made;
    shown = h.shown;
    hidden = h.hidden;
    events_are = same_events s.sections s.tally h.step ∙ h.events_are;
    done = elim h.done [ inl d ↦ inl (d.0, ends_so s.sections s.tally lines_of_text begun h.step code h.made d.1) | inr front ↦ inr front ];
    wrote = h.wrote;
  }

-- ---- the end

pub last_line : (begun : Bool) (text : List ℕ)
    → map writes ((text ++ 10 ∷ []) ∷ []) ≡ last_calls lines_of_text begun (line text ∷ []) None
last_line true text = refl
last_line false text = refl

-- the record tells the end
pub bench_told : (sections : ℕ) (t : Tally) (h : History) → h ≡ finishes (line (tally_text sections t) ∷ [])
    → body lines_of_text h.events ++ map writes lines_of_text.closing ≡ [] → ⊥
bench_told sections t h is e =
    let P : History → Type 0 = λ x. body lines_of_text x.events ++ [] ≡ [] → ⊥ in
    subst P (sym is) (λ none. cc none) e

pub no_last : (begun : Bool) (text : List ℕ) → last_calls lines_of_text begun (line text ∷ []) None ≡ [] → ⊥
no_last true text e = cc e
no_last false text e = cc e

module _ {L S : Type 0} (answers : L → List Answer) (taken : S → List ℕ) (calls : S → ℕ) where
  pub bench_finishes : (lib : L) (old new : S) (begun : Bool) (text : List ℕ) (code : ℕ)
      → Printed taken calls old new true
      (record { calls = last_calls lines_of_text begun (line text ∷ []) None; end = None }) code
      → Finishes lines_of_text true (λ h. h ≡ finishes (line text ∷ [])) answers taken calls lib lib old new begun code
  bench_finishes lib old new begun text code p = record {
    history = finishes (line text ∷ []);
    right = refl;
    fails = None;
    cause = inl refl;
    made = p.made;
    done = p.done;
    sees = record {
      names = sym (ap (λ l. names_asked (answers lib) ++ l) p.wrote.names ∙ append-nil (names_asked (answers lib)));
      bytes = p.wrote.bytes_are;
      writes = p.wrote.writes_are;
    };
  }

-- ---- the history of `solve` behind it

behind_more : (sections : ℕ) (t : Tally) (front events : List Event) (end : Option Fault)
    → before front (bench_behind sections (tally_of t front) events end) ≡ bench_behind sections t (front ++ events) end
behind_more sections t front events None =
    ap (λ (l : List Event). finishes l) (sym (append_assoc front events (line (tally_text sections (tally_of (tally_of t front) events)) ∷ [])))
    ∙ ap (λ (u : Tally). finishes ((front ++ events) ++ line (tally_text sections u) ∷ [])) (sym (fold-append tallied t front events))
behind_more sections t front events (Some f) = refl

module _ (there : List ℕ → Option (List ℕ)) (sections : ℕ) where
  record Solving (left : List Said) (end : ScriptEnd) (s : StandingView) (t : Tally) (h : History) : Type 0 where
    solving : History
    right : IsHistory IsStep no_name IsDoneThere there left end s solving
    h_is : h ≡ bench_behind sections t solving.events solving.end

  abbrev IsBench : List Said → ScriptEnd → BenchView → History → Type 0
  IsBench left end s h = IsHistory IsBenchStep no_bench_name IsBenchLast there left end s h

  by_step : (c : Command) (more : List Said) (end : ScriptEnd) (s : StandingView) (t : Tally) (h : History) (step : Step StandingView)
      → IsStep c s step
      → ((next : StandingView) (u : Tally) (x : History) → IsBench more end (bench_at sections u next) x → Solving more end next u x)
      → AfterStep (with_tally sections t step) (λ next x. IsBench more end next x) h
      → Solving (command c ∷ more) end s t h
  by_step c more end s t h (goes events next) right go after =
      let rest = go next (tally_of t events) after.more after.right in
      record {
        solving = before events rest.solving;
        right = record { step = goes events next; right = right; goes_on = record { more = rest.solving; right = rest.right; h_is = refl } };
        h_is = after.h_is ∙ ap (before events) rest.h_is ∙ behind_more sections t events rest.solving.events rest.solving.end;
      }
  by_step c more end s t h (ends events f) right go after = record {
    solving = ended events f;
    right = record { step = ends events f; right = right; goes_on = refl };
    h_is = after;
  }

  solving_of : (left : List Said) (end : ScriptEnd) (s : StandingView) (t : Tally) (h : History)
      → IsBench left end (bench_at sections t s) h → Solving left end s t h
  solving_of [] at_its_end s t h is = record { solving = finishes []; right = refl; h_is = is }
  solving_of [] (refused_at place c) s t h is = record { solving = ended [] (fault.Script place (cause.Script c)); right = refl; h_is = is }
  solving_of (name n ∷ more) end s t h is =
      let rest = solving_of more end s t is.more is.right in
      record {
        solving = before (asked n ∷ []) rest.solving;
        right = record { more = rest.solving; right = rest.right; h_is = refl };
        h_is = is.h_is ∙ ap (before (asked n ∷ [])) rest.h_is ∙ behind_more sections t (asked n ∷ []) rest.solving.events rest.solving.end;
      }
  solving_of (command c ∷ more) end s t h is =
      by_step c more end s t h is.right.solving is.right.right (λ next u x there. solving_of more end next u x there)
      (subst (λ step. AfterStep step (λ next x. IsBench more end next x) h) is.right.step_is is.goes_on)

-- there is exactly one
pub one_bench : (number sections : ℕ) → ExactlyOne (λ h. IsBenchHistory number sections h)
one_bench number sections =
    let one = one_script (feeder_files number sections) feeder_name in
    record {
      some = bench_of sections one.some;
      is = record { solving = one.some; right = one.is; h_is = refl };
      only = λ h is. is.h_is ∙ ap (bench_of sections) (one.only is.solving is.right);
    }

-- a run over what is held comes to the history of `bench`
pub bench_history : (law : SaidLaw) (number sections : ℕ) (script : Script) (state : BenchView)
    → script ≡ script_of (feeder_files number sections) (chars feeder_name)
    → state ≡ bench_at sections no_rounds first_standing
    → (h : History)
    → IsHistory IsBenchStep no_bench_name IsBenchLast (λ n. held (feeder_files number sections) (bytes n)) (said_in script) (end_in script) state h
    → IsBenchHistory number sections h
bench_history law number sections script state is empty h right =
    let files = feeder_files number sections in
    let p = said_of files (chars feeder_name) in
    let P : List Said → ScriptEnd → BenchView → Type 0 = λ l e s. IsHistory IsBenchStep no_bench_name IsBenchLast (λ n. held files (bytes n)) l e s h in
    let a : P (said_in script) (end_in script) (bench_at sections no_rounds first_standing) = subst (P (said_in script) (end_in script)) empty right in
    let b : P p.said (end_in script) (bench_at sections no_rounds first_standing) =
    subst (λ l. P l (end_in script) (bench_at sections no_rounds first_standing))
    (ap said_in is ∙ law.said files (chars feeder_name)) a in
    let c : P p.said (ended_by p.left) (bench_at sections no_rounds first_standing) =
    subst (λ e. P p.said e (bench_at sections no_rounds first_standing))
    (ap end_in is ∙ law.end files (chars feeder_name)) b in
    let all = solving_of (λ n. held files (bytes n)) sections p.said (ended_by p.left) first_standing no_rounds h c in
    record { solving = all.solving; right = all.right; h_is = all.h_is }

-- ---- calls without those to the library

kept : List Call → List Call
kept [] = []
kept (reads n ∷ all) = kept all
kept (writes text ∷ all) = writes text ∷ kept all

kept-append : (a b : List Call) → kept (a ++ b) ≡ kept a ++ kept b
unfolding kept
kept-append [] b = refl
kept-append (reads n ∷ a) b = kept-append a b
kept-append (writes text ∷ a) b = ap (λ l. writes text ∷ l) (kept-append a b)

kept_texts : (all : List Call) → texts_written (kept all) ≡ texts_written all
unfolding kept
kept_texts [] = refl
kept_texts (reads n ∷ all) = kept_texts all
kept_texts (writes text ∷ all) = ap (λ l. text ∷ l) (kept_texts all)

kept_names : (all : List Call) → names_read (kept all) ≡ []
unfolding kept
kept_names [] = refl
kept_names (reads n ∷ all) = kept_names all
kept_names (writes text ∷ all) = kept_names all

kept_event : (e : Event) → kept (calls_in lines_of_text e) ≡ calls_in lines_alone e
unfolding kept
kept_event (asked n) = refl
kept_event (settle s) = refl
kept_event (row fields) = refl
kept_event (waits c es) = refl
kept_event (swept c m l) = refl
kept_event (line text) = refl

kept_body : (events : List Event) → kept (body lines_of_text events) ≡ body lines_alone events
unfolding kept
kept_body [] = refl
kept_body (e ∷ events) =
    kept-append (calls_in lines_of_text e) (body lines_of_text events)
    ∙ ap (λ l. l ++ kept (body lines_of_text events)) (kept_event e)
    ∙ ap (λ l. calls_in lines_alone e ++ l) (kept_body events)

kept_calls : (events : List Event) (end : Option Fault)
    → kept (calls_of lines_of_text events end) ≡ calls_of lines_alone events end
unfolding kept
kept_calls events None =
    ap kept (opened_none (body lines_of_text events ++ []))
    ∙ kept-append (body lines_of_text events) []
    ∙ ap (λ l. l ++ []) (kept_body events)
    ∙ sym (opened_none (body lines_alone events ++ []))
kept_calls events (Some f) =
    kept-append (so_far lines_of_text events) (writes (fault_text f) ∷ [])
    ∙ ap (λ l. l ++ writes (fault_text f) ∷ []) (ap kept (opened_none (body lines_of_text events)) ∙ kept_body events
    ∙ sym (opened_none (body lines_alone events)))

abbrev kept_made : Made → Made
kept_made m = record { calls = kept m.calls; torn = m.torn }

front_kept : (all : List Call) (code : ℕ) (m : Made) → IsFrontOf all code m → IsFrontOf (kept all) code (kept_made m)
unfolding kept
front_kept all code m front = elim front [
  | inl a ↦ inl (record { rest = kept a.rest; calls = ap kept a.calls ∙ kept-append m.calls a.rest; torn = a.torn; status_is = a.status_is })
  | inr a ↦ inr (record {
    text = a.text;
    rest = kept a.rest;
    calls = ap kept a.calls ∙ kept-append m.calls (writes a.text ∷ a.rest);
    front = a.front;
    torn = a.torn;
    cut = a.cut;
    status_is = a.status_is;
  })
]

-- ---- the last call

-- whether the last call is a write
abbrev last_by : Call → List Call → Bool
last_by (reads n) [] = false
last_by (writes text) [] = true
last_by c (d ∷ l) = last_by d l

abbrev last_writes : List Call → Bool
last_writes [] = false
last_writes (c ∷ l) = last_by c l

next_last : (c d : Call) (l : List Call) → last_by c (d ∷ l) ≡ last_by d l
next_last (reads n) d l = refl
next_last (writes text) d l = refl

last_of : (a : List Call) (text : List ℕ) → last_writes (a ++ writes text ∷ []) ≡ true
last_of [] text = refl
last_of (c ∷ []) text = next_last c (writes text) []
last_of (c ∷ d ∷ a) text = next_last c d (a ++ writes text ∷ []) ∙ last_of (d ∷ a) text

last_behind : (a : List Call) (c : Call) (l : List Call) → last_writes (a ++ c ∷ l) ≡ last_writes (c ∷ l)
last_behind [] c l = refl
last_behind (x ∷ []) c l = next_last x c l
last_behind (x ∷ y ∷ a) c l = next_last x y (a ++ c ∷ l) ∙ last_behind (y ∷ a) c l

last_kept : (l : List Call) → last_writes l ≡ true → kept l ≡ [] → ⊥
unfolding kept
last_kept [] w e = cc w
last_kept (reads n ∷ []) w e = cc w
last_kept (writes text ∷ l) w e = cc e
last_kept (reads n ∷ d ∷ l) w e = last_kept (d ∷ l) w e

-- where the last call is a write, no front that isn't all has all texts
front_less : (all made rest : List Call) → last_writes all ≡ true → all ≡ made ++ rest → (made ≡ all → ⊥) → kept made ≡ kept all → ⊥
front_less all made [] w is less e = less (sym (is ∙ append-nil made))
front_less all made (c ∷ l) w is less e =
    let more : kept (c ∷ l) ≡ [] = append_cancel_left (kept made) (kept (c ∷ l)) []
    (sym (kept-append made (c ∷ l)) ∙ ap kept (sym is) ∙ sym e ∙ sym (append-nil (kept made))) in
    last_kept (c ∷ l) (sym (last_behind made c l) ∙ ap last_writes (sym is) ∙ w) more

short_kept : (all : List Call) (code : ℕ) (m : Made) → last_writes all ≡ true → IsCutShort true all code m
    → IsCutShort true (kept all) code (kept_made m)
short_kept all code m w cut = (front_kept all code m cut.0, λ told e. less e)
  where
    less : kept m.calls ≡ kept all → ⊥
    less e = elim cut.0 [
      | inl a ↦ front_less all m.calls a.rest w a.calls (cut.1 refl) e
      | inr a ↦ front_less all m.calls (writes a.text ∷ a.rest) w a.calls (cut.1 refl) e
    ]

done_kept : (events : List Event) (end : Option Fault) (code : ℕ) (m : Made) → last_writes (calls_of lines_of_text events end) ≡ true
    → IsDone true (record { calls = calls_of lines_of_text events end; end = end }) code m
    → IsDone true (record { calls = calls_of lines_alone events end; end = end }) code (kept_made m)
done_kept events end code m w done =
    let same = kept_calls events end in
    elim done [
      | inl a ↦ inl (record { calls = ap kept a.calls ∙ same; torn = a.torn; status_is = a.status_is })
      | inr cut ↦ inr (subst (λ l. IsCutShort (is_some end || true) l code (kept_made m)) same (cut_kept end cut))
    ]
  where
    cut_kept : (e : Option Fault) → IsCutShort (is_some e || true) (calls_of lines_of_text events end) code m
        → IsCutShort (is_some e || true) (kept (calls_of lines_of_text events end)) code (kept_made m)
    cut_kept None cut = short_kept (calls_of lines_of_text events end) code m w cut
    cut_kept (Some f) cut = short_kept (calls_of lines_of_text events end) code m w cut

-- a history of `bench` ends with a text
bench_writes : (sections : ℕ) (t : Tally) (events : List Event) (end : Option Fault)
    → last_writes (calls_of lines_of_text (bench_behind sections t events end).events (bench_behind sections t events end).end) ≡ true
bench_writes sections t events None =
    let text = tally_text sections (tally_of t events) in
    ap last_writes (opened_none (body lines_of_text (events ++ line text ∷ []) ++ []) ∙ append-nil (body lines_of_text (events ++ line text ∷ []))
    ∙ body-append lines_of_text events (line text ∷ []))
    ∙ last_of (body lines_of_text events) (text ++ 10 ∷ [])
bench_writes sections t events (Some f) = last_of (so_far lines_of_text events) (fault_text f)

history_writes : (number sections : ℕ) (h : History) → IsBenchHistory number sections h
    → last_writes (calls_of lines_of_text h.events h.end) ≡ true
history_writes number sections h is =
    subst (λ (x : History). last_writes (calls_of lines_of_text x.events x.end) ≡ true) (sym is.h_is)
    (bench_writes sections no_rounds is.solving.events is.solving.end)

-- so the record tells the end
pub bench_tells : (number sections : ℕ) (h : History) → IsBenchHistory number sections h → IsToldBy lines_alone true h.events h.end
bench_tells number sections h is =
    subst (λ (x : History). IsToldBy lines_alone true x.events x.end) (sym is.h_is)
    (by no_rounds is.solving.events is.solving.end)
  where
    by : (t : Tally) (events : List Event) (end : Option Fault)
        → IsToldBy lines_alone true (bench_behind sections t events end).events (bench_behind sections t events end).end
    by t events None told none e =
        let text = tally_text sections (tally_of t events) in
        not_empty (body lines_alone events) (writes (text ++ 10 ∷ [])) []
        (sym (append-nil (body lines_alone events ++ writes (text ++ 10 ∷ []) ∷ []))
        ∙ ap (λ l. l ++ []) (sym (body-append lines_alone events (line text ∷ []))) ∙ e)
    by t events (Some f) told none e = cc none

-- ---- a library none of whose reads fails

well_last : (a b : List Answer) → all_well (a ++ b) ≡ true → all_well b ≡ true
well_last [] b h = h
well_last ((n, content bs) ∷ a) b h = well_last a b h
well_last ((n, absent) ∷ a) b h = well_last a b h
well_last ((n, failed) ∷ a) b h = absurd (cc)

pub none_failed : (before now : List Answer) → all_well now ≡ true → HasFailed before now → ⊥
none_failed before now well h =
    let last : List Answer = (h.0, failed) ∷ [] in
    let all : all_well (before ++ (h.1.earlier ++ last)) ≡ true = subst (λ l. all_well l ≡ true) h.1.told well in
    let no : false ≡ true = well_last h.1.earlier last (well_last before (h.1.earlier ++ last) all) in
    cc no

module _ {L S : Type 0} (answers : L → List Answer) (taken : S → List ℕ) (calls : S → ℕ) (lib_old lib_new : L)
    (old new : S) where
  wrote_kept : (m : Made) → Sees answers taken calls lib_old lib_new old new m
      → Wrote taken calls old new (kept_made m)
  wrote_kept m sees = record {
    names = kept_names m.calls;
    bytes_are = subst (λ (texts : List (List ℕ)).
        taken new ≡ taken old ++ (concat texts ++ torn_bytes m.torn))
        (sym (kept_texts m.calls)) sees.bytes;
    writes_are = subst (λ (texts : List (List ℕ)).
        calls new ≡ calls old + (length texts + torn_writes m.torn))
        (sym (kept_texts m.calls)) sees.writes;
  }

  -- where no read fails, it is what is done without the calls to the library
  pub without_library : (number sections : ℕ) (P : History → Type 0) → ((h : History) → P h → IsBenchHistory number sections h) → (code : ℕ)
      → (HasFailed (answers lib_old) (answers lib_new) → ⊥)
      → Runs answers taken calls lib_old lib_new old new P lines_of_text true code
      → RunsAlone taken calls old new (λ h. IsBenchHistory number sections h) lines_alone true code
  without_library number sections P weaker code never r =
      let none : r.fails ≡ None = elim r.cause [ inl e ↦ e | inr last ↦ absurd (never last) ] in
      let is = weaker r.history r.right in
      record {
        history = r.history;
        right = is;
        made = kept_made r.made;
        done = done_kept r.history.events r.history.end code r.made (history_writes number sections r.history is)
            (subst (λ (f : Option ℕ). IsDone true (failing f (doing lines_of_text r.history)) code r.made) none r.done);
        wrote = wrote_kept r.made r.sees;
      }

-- ---- memory runs out before anything is done

pub short_alone : {S : Type 0} (taken : S → List ℕ) (calls : S → ℕ) (out : S) (number sections : ℕ)
    → RunsAlone taken calls out out (λ h. IsBenchHistory number sections h) lines_alone true 1
short_alone taken calls out number sections =
    let one = one_bench number sections in
    let all = calls_of lines_alone one.some.events one.some.end in
    record {
      history = one.some;
      right = one.is;
      made = whole [];
      done = inr (
        inl (record { rest = all; calls = refl; torn = refl; status_is = refl }),
        λ told e.
            last_kept (calls_of lines_of_text one.some.events one.some.end) (history_writes number sections one.some one.is)
            (kept_calls one.some.events one.some.end ∙ sym e),
      );
      wrote = wrote_nothing taken calls out;
    }
