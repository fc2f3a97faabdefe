-- What the loop over a script's commands needs: where it stands, how it goes on and how it ends.
use Rattle.std.proofs.Common.{◌≡◌, ◌∙◌, ℕ, ◌+◌, ◌≤◌, Bool, true, false, List, [], ◌∷◌, ◌++◌, map, Option, Some, None}
use Rattle.std.proofs.Common.{refl, sym, ap, subst, inl, inr, arith}
use Rattle.std.specs.Prelude.{◌||◌, ◌⊎◌}
use Rattle.std.proofs.lemmas.List.{append_assoc, append-nil, map-append}
use Rattle.fd_certfile.specs.fd_outside.Answers.{Answer, IsLater, EndsFailed, HasFailed, names_asked}
use Rattle.fd_certfile.specs.fd_outside.Causes.{Rose}
use Rattle.fd_certfile.specs.fd_outside.Emitted.{Takes}
use Rattle.fd_certfile.specs.fd_outside.Files.{Files}
use Rattle.fd_certfile.proofs.CallerLemmas.fd_outside.{fails_behind, later_same, later_then, takes_then, takes_none}
use Rattle.fd_report.specs.dss_model.Names.{bytes}
use Rattle.fd_report.specs.dss_model.declared.command.Command.{Command}
use Rattle.fd_report.specs.dss_model.declared.command.Place.{Place}
use Rattle.fd_report.specs.dss_script.Said.{Said, name, command, ScriptEnd, at_its_end, refused_at}
use Rattle.fd_report.specs.dss_script.declared.fault.ScriptCause.{ScriptCause}
use Rattle.fd_report.specs.Faults.{status}
use Rattle.fd_report.specs.declared.faults.Cause.TheVariants as cause
use Rattle.fd_report.specs.declared.faults.Fault.{Fault}
use Rattle.fd_report.specs.declared.faults.Fault.TheVariants as fault
use Rattle.fd_outcome.specs.Events.{Event, asked, History, before, ended, finishes}
use Rattle.fd_outcome.specs.Work.{Step, goes, ends, ExactlyOne}
use Rattle.fd_outcome.specs.History.{Point, IsFrom, IsLast, IsHistory, LeadsTo}
use Rattle.fd_outcome.specs.Calls.{Call, reads, writes, Style, so_far, body, calls_of, doing, Doing, fault_text}
use Rattle.fd_outcome.specs.Calls.{names_read, texts_written}
use Rattle.fd_outcome.specs.Done.{failing, Made, IsFrontOf, IsDone, Sees}
use Rattle.fd_outcome.specs.Behind.{behind, has_text, last_calls, AsksNames, TellsEnd}
use Rattle.fd_outcome.specs.Laws.{HistoryLaw, IsDue}
use Rattle.fd_outcome.specs.Runs.{Runs}
use Rattle.fd_outcome.specs.Way.{Way, whole}
use Rattle.fd_outcome.specs.Parts.{Wrote, Printed, fault_doing, Asked, IsUnread, IsCutShort, GoesOn, events_in, EndsSo}
use Rattle.fd_outcome.specs.Parts.{EndsAt, Finishes}
use Rattle.fd_outcome.specs.Untold.{CutsShort, EndsAtFault, Answers, EndsAtRead, IsUntold}
pub use Rattle.fd_outcome.proofs.OneRead.{asked_for, asked_none, ends_failed, held_is, later_read}
use Rattle.fd_outcome.proofs.Histories.{one_history, one_value, does_command, stays}
pub use Rattle.fd_outcome.proofs.Lists.{body-append}
use Rattle.fd_outcome.proofs.Lists.{texts-append}
use Rattle.fd_outcome.proofs.Printing.{append_is, due_of}
use Rattle.fd_outcome.proofs.Told.{last_behind, last_told, told_more}
use Rattle.fd_outcome.proofs.Ways.{goes_on, ended_at, ended_at_read, names_lead, reads_alone, done_after, sees_then}
use Rattle.fd_outcome.proofs.Ways.{sees_nothing, sees_names, sees_as}
pub use Rattle.fd_outcome.proofs.Asked.{finishes_asked, finishes_short, finishes_unread}
pub use Rattle.fd_outcome.proofs.Given.{gives_next, wrote_nothing, sees_none, or_false, has_text-append, behind-append}
pub use Rattle.fd_outcome.proofs.Given.{text_behind, nothing_behind}
pub use Rattle.fd_outcome.proofs.Handed.{wrote_all, cut_by_memory, cut_by_fault, cut_before, fault_whole, fault_cut}
pub use Rattle.fd_outcome.proofs.Handed.{wrote_then, printed_then, front_then, shorter}
pub use Rattle.fd_outcome.proofs.Told.{IsToldBy, all_told, longer, not_all, not_empty, told_fault, told_history}
pub use Rattle.fd_outcome.proofs.Ways.{made_after}
use Rattle.fd_outcome.proofs.Given.{takes_wrote, still, called_all, reads_after, failing_behind, rose_since}
use Rattle.fd_outcome.proofs.Given.{cause_after}
pub use Rattle.fd_certfile.proofs.CallerLemmas.fd_outside as fd_outside
pub use Rattle.fd_report.proofs.CallerLemmas as fd_report
pub use Rattle.fd_certfile.proofs.CallerLemmas as fd_certfile

-- ---- where the loop stands

module _ {T : Type 0} (is_step : Command → T → Step T → Type 0) (last_name : T → Option (List ℕ))
    (is_last : T → Option (List ℕ) → History → Type 0)
    (style : Style) (tells : Bool) (held : List ℕ → Option (List ℕ))
    {L S : Type 0} (answers : L → List Answer) (taken : S → List ℕ) (calls : S → ℕ)
    (p : Point T) (lib_first : L) (out_first : S) where
  abbrev pub WayAt : List Said → ScriptEnd → T → L → S → Type 0
  WayAt left end s lib out =
      Way is_step last_name is_last held answers taken calls style p lib_first out_first
      (record { left = left; end = end; state = s }) lib out

  pub record At (begun : Bool) (left : List Said) (end : ScriptEnd) (s : T) (lib : L) (out : S) : Type 0 where
    pub way : WayAt left end s lib out
    pub begun_is : begun ≡ has_text (body style way.events)

  abbrev pub RunsTo : L → S → ℕ → Type 0
  RunsTo lib out code =
      Runs answers taken calls lib_first lib out_first out
      (λ h. IsFrom is_step last_name is_last held p h) style tells code

  sees_wrote : (lib : L) (old new : S) (m : Made) → Wrote taken calls old new m
      → Sees answers taken calls lib lib old new m
  sees_wrote lib old new m w = record {
    names = sym (ap (λ l. names_asked (answers lib) ++ l) w.names ∙ append-nil (names_asked (answers lib)));
    bytes = w.bytes_are;
    writes = w.writes_are;
  }

  pub at_start : (left : List Said) (end : ScriptEnd) (s : T) → p ≡ record { left = left; end = end; state = s }
      → At false left end s lib_first out_first
  at_start left end s e = record {
    way = record {
      events = [];
      leads = subst (λ (q : Point T). LeadsTo is_step last_name is_last held p [] q) e
          (stays is_step last_name is_last held p);
      seen = sees_nothing answers taken calls lib_first out_first;
    };
    begun_is = refl;
  }

  module _ (one_step : (c : Command) (s : T) → ExactlyOne (is_step c s))
      (one_last : (s : T) (found : Option (List ℕ)) → ExactlyOne (is_last s found)) (fits : AsksNames style)
      (told : TellsEnd tells style is_last) where
    -- some history goes on from here
    goes_from : (left : List Said) (end : ScriptEnd) (s : T)
        → ExactlyOne (IsHistory is_step last_name is_last held left end s)
    goes_from left end s = one_history is_step last_name is_last one_step one_last held left end s

    at_names : (begun : Bool) (names : List (List ℕ)) (more : List Said) (end : ScriptEnd) (s : T) (lib lib_new : L)
        (out : S)
        → At begun (map name names ++ more) end s lib out
        → names_asked (answers lib_new) ≡ names_asked (answers lib) ++ map bytes names
        → At begun more end s lib_new out
    at_names begun names more end s lib lib_new out a grown = record {
      way = goes_on is_step last_name is_last held answers taken calls style tells p (record {
        left = map name names ++ more;
        end = end;
        state = s;
      }) (record { left = more; end = end; state = s }) lib_first lib lib_new out_first out out (map asked names)
          a.way (names_lead is_step last_name is_last held answers taken calls style tells names more end s)
          (sees_as answers taken calls lib lib_new out out _ _
          (sym (reads_alone style fits (has_text (body style a.way.events)) names))
          (sees_names answers taken calls lib lib_new out names grown));
      begun_is = a.begun_is ∙ sym (still style fits a.way.events names);
    }

    pub at_asked : (begun : Bool) (left rest : List Said) (end : ScriptEnd) (s : T) (lib lib_new : L) (out : S)
        → At begun left end s lib out → Asked left rest (names_asked (answers lib)) (names_asked (answers lib_new))
        → At begun rest end s lib_new out
    at_asked begun left rest end s lib lib_new out a names =
        at_names begun names.names rest end s lib lib_new out
        (subst (λ l. At begun l end s lib out) names.left_is a) names.grown

    pub at_command : (begun now : Bool) (c : Command) (more : List Said) (end : ScriptEnd) (s t : T) (lib : L)
        (out out_new : S)
        → At begun (command c ∷ more) end s lib out
        → GoesOn style (is_step c s) t taken calls out out_new begun now → At now more end t lib out_new
    at_command begun now c more end s t lib out out_new a g = record {
      way = goes_on is_step last_name is_last held answers taken calls style tells p (record {
        left = command c ∷ more;
        end = end;
        state = s;
      }) (record { left = more; end = end; state = t }) lib_first lib lib out_first out out_new g.events a.way
          (does_command is_step last_name is_last held c more end s t g.events g.right)
          (sees_wrote lib out out_new _
          (subst (λ b. Wrote taken calls out out_new (whole (behind style b g.events))) a.begun_is g.wrote));
      begun_is = g.begun_is ∙ ap (λ b. b || has_text (body style g.events)) a.begun_is
          ∙ sym
          (ap has_text (body-append style a.way.events g.events)
          ∙ has_text-append (body style a.way.events) (body style g.events));
    }

    -- ---- ends

    -- cut short behind some of the events of a history that goes on
    cut_at : (left : List Said) (end : ScriptEnd) (s : T) (lib lib_new : L) (out out_new : S) (h : History)
        (shown hidden : List Event) (code : ℕ) (m : Made)
        → (w : WayAt left end s lib out)
        → IsHistory is_step last_name is_last held left end s h → h.events ≡ shown ++ hidden
        → IsToldBy style tells hidden h.end
        → IsFrontOf (behind style (has_text (body style w.events)) shown) code m
        → Sees answers taken calls lib lib_new out out_new m → RunsTo lib_new out_new code
    cut_at left end s lib lib_new out out_new h shown hidden code m w is events_are by_end front sees =
        let first = behind style (has_text (body style w.events)) shown in
        let more = last_calls style (has_text (body style (w.events ++ shown))) hidden h.end in
        let all : calls_of style (w.events ++ h.events) h.end ≡ so_far style w.events ++ (first ++ more) =
        ap (λ l. calls_of style l h.end) (ap (λ l. w.events ++ l) events_are ∙ sym (append_assoc w.events shown hidden))
        ∙ last_behind style (w.events ++ shown) hidden h.end
        ∙ ap (λ l. l ++ more) (append_is style w.events shown)
        ∙ append_assoc (so_far style w.events) first more in
        ended_at is_step last_name is_last held answers taken calls style tells p
        (record { left = left; end = end; state = s }) lib_first lib lib_new out_first out out_new h
        (first ++ more) code m w is all
        (inr (
          longer first more code m front,
          λ is_told. not_all first more code m front
              (last_told style tells (has_text (body style (w.events ++ shown))) hidden h.end is_told by_end),
        ))
        sees

    -- ended with a fault behind these events
    fault_at : (left : List Said) (end : ScriptEnd) (s : T) (lib lib_new : L) (out out_new : S) (events : List Event)
        (f : Fault) (code : ℕ) (m : Made)
        → (w : WayAt left end s lib out)
        → IsHistory is_step last_name is_last held left end s (ended events f)
        → IsDone true
        (record {
          calls = behind style (has_text (body style w.events)) events
              ++ writes (fault_text f) ∷ [];
          end = Some f;
        }) code m
        → Sees answers taken calls lib lib_new out out_new m → RunsTo lib_new out_new code
    fault_at left end s lib lib_new out out_new events f code m w is done sees =
        let last = writes (fault_text f) ∷ [] in
        let calls_are : calls_of style (w.events ++ events) (Some f)
        ≡ so_far style w.events ++ (behind style (has_text (body style w.events)) events ++ last) =
        ap (λ l. l ++ last) (append_is style w.events events)
        ∙ append_assoc (so_far style w.events) (behind style (has_text (body style w.events)) events) last in
        ended_at is_step last_name is_last held answers taken calls style tells p
        (record { left = left; end = end; state = s }) lib_first lib lib_new out_first out out_new (ended events f)
        (behind style (has_text (body style w.events)) events ++ last) code m w is calls_are done sees

    pub ends_refused : (begun : Bool) (left : List Said) (end : ScriptEnd) (s : T) (lib lib_new : L) (out out_new : S)
        (place : Place) (c : ScriptCause) (code : ℕ)
        → At begun left end s lib out
        → Asked left [] (names_asked (answers lib)) (names_asked (answers lib_new)) × (end ≡ refused_at place c)
        → Printed taken calls out out_new true (fault_doing (fault.Script place (cause.Script c))) code
        → RunsTo lib_new out_new code
    ends_refused begun left end s lib lib_new out out_new place c code a r printed =
        let f = fault.Script place (cause.Script c) in
        let b = at_asked begun left [] end s lib lib_new out a r.0 in
        let w : WayAt [] (refused_at place c) s lib_new out = subst (λ x. WayAt [] x s lib_new out) r.1 b.way in
        let D : List Call → Type 0 =
        λ l. IsDone true (record { calls = l ++ writes (fault_text f) ∷ []; end = Some f }) code printed.made in
        fault_at [] (refused_at place c) s lib_new lib_new out out_new [] f code printed.made w refl
        (subst D (sym (nothing_behind style (has_text (body style w.events)))) printed.done)
        (sees_wrote lib_new out out_new printed.made printed.wrote)

    pub ends_short : (begun : Bool) (left : List Said) (end : ScriptEnd) (s : T) (lib lib_new : L) (out : S)
        → At begun left end s lib out
        → IsCutShort left (names_asked (answers lib)) (names_asked (answers lib_new)) → RunsTo lib_new out 1
    ends_short begun left end s lib lib_new out a c =
        let b = at_asked begun left c.rest end s lib lib_new out a c.asked in
        let one = goes_from c.rest end s in
        let F : List Call → Type 0 = λ l. IsFrontOf l 1 (whole []) in
        cut_at c.rest end s lib_new lib_new out out one.some [] one.some.events 1 (whole []) b.way one.is refl
        (told_history is_step last_name is_last held style tells told c.rest end s one.some one.is)
        (subst F (sym (nothing_behind style (has_text (body style b.way.events))))
        (inl (record { rest = []; calls = refl; torn = refl; status_is = refl })))
        (sees_nothing answers taken calls lib_new out)

    -- memory runs out before anything is asked
    pub ends_first : (left : List Said) (end : ScriptEnd) (s : T) → p ≡ record { left = left; end = end; state = s }
        → RunsTo lib_first out_first 1
    ends_first left end s e =
        ends_short false left end s lib_first lib_first out_first (at_start left end s e) (record {
          rest = left;
          asked = record { names = []; left_is = refl; grown = sym (append-nil (names_asked (answers lib_first))) };
        })

    pub ends_unread : (begun : Bool) (left : List Said) (end : ScriptEnd) (s : T) (lib lib_new : L) (out out_new : S)
        (unread : List ℕ) (code : ℕ)
        → At begun left end s lib out
        → IsUnread left (names_asked (answers lib)) (names_asked (answers lib_new)) unread
        → Printed taken calls out out_new true (fault_doing (fault.Read unread)) code
        → HasFailed (answers lib_first) (answers lib_new)
        → RunsTo lib_new out_new code
    ends_unread begun left end s lib lib_new out out_new unread code a r printed failed =
        let w : WayAt (map name r.names ++ name unread ∷ r.more) end s lib out =
        subst (λ l. WayAt l end s lib out) r.left_is a.way in
        let one = goes_from r.more end s in
        let all = r.names ++ unread ∷ [] in
        let e : map reads all ≡ map reads r.names ++ reads unread ∷ [] = map-append reads r.names (unread ∷ []) in
        let last = writes (fault_text (fault.Read unread)) ∷ [] in
        let f : (map reads r.names ++ reads unread ∷ last) ≡ map reads all ++ last =
        sym (ap (λ l. l ++ last) e ∙ append_assoc (map reads r.names) (reads unread ∷ []) last) in
        ended_at_read is_step last_name is_last held answers taken calls style tells p lib_first lib lib_new
        out_first out out_new fits r.names unread r.more end s one.some code (made_after (map reads all) printed.made)
        w one.is failed
        (done_after tells (map reads all) last _ (Some (fault.Read unread)) code printed.made f printed.done)
        (sees_then answers taken calls lib lib_new lib_new out out out_new (map reads all) printed.made
        (sees_names answers taken calls lib lib_new out all r.grown)
        (sees_wrote lib_new out out_new printed.made printed.wrote))

    -- ---- ends at a command

    -- a history that begins with this step
    record Continued (c : Command) (more : List Said) (end : ScriptEnd) (s : T) (step : Step T) : Type 0 where
      history : History
      is : IsHistory is_step last_name is_last held (command c ∷ more) end s history
      rest : List Event
      events_are : history.events ≡ events_in step ++ rest
      by_end : IsToldBy style tells rest history.end

    continued : (c : Command) (more : List Said) (end : ScriptEnd) (s : T) (step : Step T) → is_step c s step
        → Continued c more end s step
    continued c more end s (goes events t) right =
        let one = goes_from more end t in
        record {
          history = before events one.some;
          is = record {
            step = goes events t;
            right = right;
            goes_on = record { more = one.some; right = one.is; h_is = refl };
          };
          rest = one.some.events;
          events_are = refl;
          by_end = told_history is_step last_name is_last held style tells told more end t one.some one.is;
        }
    continued c more end s (ends events f) right = record {
      history = ended events f;
      is = record { step = ends events f; right = right; goes_on = refl };
      rest = [];
      events_are = sym (append-nil events);
      by_end = λ is_told none. cc none;
    }

    cut_in_step : (c : Command) (more : List Said) (end : ScriptEnd) (s : T) (lib : L) (out out_new : S)
        (step : Step T) (shown hidden : List Event) (code : ℕ) (m : Made)
        → is_step c s step
        → (w : WayAt (command c ∷ more) end s lib out) → events_in step ≡ shown ++ hidden
        → IsFrontOf (behind style (has_text (body style w.events)) shown) code m
        → Wrote taken calls out out_new m → RunsTo lib out_new code
    cut_in_step c more end s lib out out_new step shown hidden code m right w events_are front wrote =
        let k = continued c more end s step right in
        cut_at (command c ∷ more) end s lib lib out out_new k.history shown (hidden ++ k.rest) code m w k.is
        (k.events_are ∙ ap (λ l. l ++ k.rest) events_are ∙ append_assoc shown hidden k.rest)
        (told_more style tells hidden k.rest k.history.end k.by_end) front (sees_wrote lib out out_new m wrote)

    end_of_step : (c : Command) (more : List Said) (end : ScriptEnd) (s : T) (lib : L) (out out_new : S)
        (step : Step T) (code : ℕ) (m : Made)
        → is_step c s step
        → (w : WayAt (command c ∷ more) end s lib out)
        → EndsSo style (has_text (body style w.events)) step code m
        → Wrote taken calls out out_new m → RunsTo lib out_new code
    end_of_step c more end s lib out out_new (goes events t) code m right w done wrote =
        cut_in_step c more end s lib out out_new (goes events t) events [] code m right w
        (sym (append-nil events)) done wrote
    end_of_step c more end s lib out out_new (ends events f) code m right w done wrote =
        fault_at (command c ∷ more) end s lib lib out out_new events f code m w
        (record { step = ends events f; right = right; goes_on = refl }) done (sees_wrote lib out out_new m wrote)

    pub ends_command : (begun : Bool) (c : Command) (more : List Said) (end : ScriptEnd) (s : T) (lib : L)
        (out out_new : S) (code : ℕ)
        → At begun (command c ∷ more) end s lib out
        → EndsAt style (is_step c s) taken calls out out_new begun code → RunsTo lib out_new code
    ends_command begun c more end s lib out out_new code a e = elim e.done [
      | inl all ↦ end_of_step c more end s lib out out_new e.step code e.made e.right a.way
          (subst (λ b. EndsSo style b e.step code e.made) a.begun_is all.1) e.wrote
      | inr front ↦ cut_in_step c more end s lib out out_new e.step e.shown e.hidden code e.made e.right a.way
          e.events_are
          (subst (λ b. IsFrontOf (behind style b e.shown) code e.made) a.begun_is front) e.wrote
    ]

    -- ---- the end of the script

    pub ends_finished : (begun : Bool) (left : List Said) (end : ScriptEnd) (s : T) (lib mid lib_new : L)
        (some : List Answer) (out out_new : S) (code : ℕ)
        → At begun left end s lib out
        → Asked left [] (names_asked (answers lib)) (names_asked (answers mid)) × (end ≡ at_its_end)
        → answers mid ≡ answers lib_first ++ some
        → Finishes style tells
        (λ h. IsLast is_step last_name is_last held
        (last_name s) s h) answers taken calls mid lib_new out out_new begun code
        → RunsTo lib_new out_new code
    ends_finished begun left end s lib mid lib_new some out out_new code before_names finished later f =
        let a = at_asked begun left [] end s lib mid out before_names finished.0 in
        let w : WayAt [] end s mid out = a.way in
        let start = so_far style w.events in
        let rest = last_calls style (has_text (body style w.events)) f.history.events f.history.end in
        let k : Option ℕ = reads_after (names_read start) f.fails in
        let split : doing style (before w.events f.history)
        ≡ called_all start (record { calls = rest; end = f.history.end }) =
        ap (λ (l : List Call). (let d : Doing = record { calls = l; end = f.history.end } in d))
        (last_behind style w.events f.history.events f.history.end) in
        let cut : failing k (doing style (before w.events f.history))
        ≡ called_all start (failing f.fails (record { calls = rest; end = f.history.end })) =
        ap (failing k) split ∙ failing_behind start f.fails rest f.history.end in
        let ours : IsDone tells (failing f.fails (record { calls = rest; end = f.history.end })) code f.made =
        subst (λ b. IsDone tells (failing f.fails (record {
          calls = last_calls style b f.history.events f.history.end;
          end = f.history.end;
        })) code f.made) a.begun_is f.done in
        let d = failing f.fails (record { calls = rest; end = f.history.end }) in
        let is_end : IsHistory is_step last_name is_last held [] end s f.history =
        subst (λ x. IsHistory is_step last_name is_last held [] x s f.history) (sym finished.1) f.right in
        let all_done : IsDone tells (failing k (doing style (before w.events f.history))) code
        (made_after start f.made) =
        subst (λ (x : Doing). IsDone tells x code (made_after start f.made)) (sym cut)
        (done_after tells start d.calls (start ++ d.calls) d.end code f.made refl ours) in
        record {
          history = before w.events f.history;
          right = w.leads f.history is_end;
          fails = k;
          cause = cause_after (answers lib_first) (answers mid) (answers lib_new) some
              (names_read start) f.fails later f.cause;
          made = made_after start f.made;
          done = all_done;
          sees = sees_then answers taken calls lib_first mid lib_new out_first out out_new start f.made w.seen f.sees;
        }

-- ---- whatever a library answers

not_one : (code : ℕ) → code ≡ 1 → code ≡ 4 → ⊥
not_one code a b = let f : 1 ≡ 4 = sym a ∙ b in cc f

not_five : (code : ℕ) → code ≡ 5 → code ≡ 4 → ⊥
not_five code a b = let f : 5 ≡ 4 = sym a ∙ b in cc f

pub not_cut : (code : ℕ) → code ≡ 4 → CutsShort code → ⊥
not_cut code is cut = elim cut [ inl a ↦ not_one code a is | inr a ↦ not_five code a is ]

not_usage : (code : ℕ) → code ≡ 2 → CutsShort code → ⊥
not_usage code is cut =
    elim cut [
      | inl a ↦ (let e : code ≡ 1 = a in omega (arith, e, is))
      | inr a ↦
          (let e : code ≡ 5 = a in omega (arith, e, is))
    ]

cut_code : (calls : List Call) (code : ℕ) (m : Made) → IsFrontOf calls code m → CutsShort code
cut_code calls code m front = elim front [ inl a ↦ inl a.status_is | inr a ↦ inr a.status_is ]

module _ {S : Type 0} (taken : S → List ℕ) (calls : S → ℕ) where
  -- all calls of a fault behind others are made, so its record is the last text
  fault_last : (old new : S) (made : List Call) (m : Made) (f : Fault) (code : ℕ)
      → m.calls ≡ made ++ writes (fault_text f) ∷ [] → m.torn ≡ None → code ≡ status f → Wrote taken calls old new m
      → EndsAtFault taken calls old new code
  fault_last old new made m f code e none is wrote =
      let w : Wrote taken calls old new (whole (made ++ writes (fault_text f) ∷ [])) =
      subst (λ (x : Made). Wrote taken calls old new x)
      (ap (λ l. (let x : Made = record { calls = l; torn = m.torn } in x)) e
      ∙ ap (λ t. (let x : Made = record { calls = made ++ writes (fault_text f) ∷ []; torn = t } in x)) none)
      wrote in
      record {
        which = f;
        code_is = is;
        texts = texts_written made;
        takes = subst (λ l. Takes taken calls old new l) (texts-append made (writes (fault_text f) ∷ []))
            (takes_wrote taken calls old new (made ++ writes (fault_text f) ∷ []) w);
      }

  done_answers : (old new : S) (made : List Call) (f : Fault) (code : ℕ) (m : Made)
      → IsDone true (record { calls = made ++ writes (fault_text f) ∷ []; end = Some f }) code m
      → Wrote taken calls old new m
      → CutsShort code ⊎ EndsAtFault taken calls old new code
  done_answers old new made f code m done wrote = elim done [
    | inl all ↦ inr (fault_last old new made m f code all.calls all.torn all.status_is wrote)
    | inr cut ↦ inl (cut_code _ code m cut.0)
  ]

  -- a command ends the run with a fault's record, or is cut short
  step_answers : {T : Type 0} (style : Style) (begun : Bool) (step : Step T) (old new : S) (code : ℕ) (m : Made)
      → EndsSo style begun step code m → Wrote taken calls old new m
      → CutsShort code ⊎ EndsAtFault taken calls old new code
  step_answers style begun (goes events s) old new code m front wrote = inl (cut_code _ code m front)
  step_answers style begun (ends events f) old new code m done wrote =
      done_answers old new (behind style begun events) f code m done wrote

  pub command_answers : {T : Type 0} (style : Style) (is_step : Step T → Type 0) (old new : S) (begun : Bool) (code : ℕ)
      → EndsAt style is_step taken calls old new begun code
      → CutsShort code ⊎ EndsAtFault taken calls old new code
  command_answers style is_step old new begun code e = elim e.done [
    | inl all ↦ step_answers style begun e.step old new code e.made all.1 e.wrote
    | inr front ↦ inl (cut_code _ code e.made front)
  ]

  -- the record of a fault is printed, or cut short
  pub fault_answers : (old new : S) (f : Fault) (code : ℕ) → Printed taken calls old new true (fault_doing f) code
      → CutsShort code ⊎ EndsAtFault taken calls old new code
  fault_answers old new f code p = done_answers old new [] f code p.made p.done p.wrote

  pub fault_code : (old new : S) (f : Fault) (code : ℕ) → Printed taken calls old new true (fault_doing f) code
      → (code ≡ status f) ⊎ CutsShort code
  fault_code old new f code p = elim p.done [
    | inl all ↦ inl all.status_is
    | inr cut ↦ inr (cut_code _ code p.made cut.0)
  ]

  -- what was taken before
  pub fault_behind : (old mid new : S) (texts : List (List ℕ)) (code : ℕ) → Takes taken calls old mid texts
      → CutsShort code ⊎ EndsAtFault taken calls mid new code → CutsShort code ⊎ EndsAtFault taken calls old new code
  fault_behind old mid new texts code takes is = elim is [
    | inl cut ↦ inl cut
    | inr e ↦ inr (record {
      which = e.which;
      code_is = e.code_is;
      texts = texts ++ e.texts;
      takes = subst (λ l. Takes taken calls old new l) (sym (append_assoc texts e.texts (fault_text e.which ∷ [])))
          (takes_then taken calls old mid new texts (e.texts ++ fault_text e.which ∷ []) takes e.takes);
    })
  ]

  pub answers_behind : (old mid new : S) (texts : List (List ℕ)) (code : ℕ) → Takes taken calls old mid texts
      → Answers taken calls mid new code → Answers taken calls old new code
  answers_behind old mid new texts code takes is =
      elim is [ inl a ↦ inl a | inr a ↦ inr (fault_behind old mid new texts code takes a) ]

  pub takes_more : (old mid new : S) (texts : List (List ℕ)) (made : List Call) → Takes taken calls old mid texts
      → Wrote taken calls mid new (whole made) → Takes taken calls old new (texts ++ texts_written made)
  takes_more old mid new texts made takes wrote =
      takes_then taken calls old mid new texts (texts_written made) takes (takes_wrote taken calls mid new made wrote)

  -- ---- the record of a failed read is the last

  record IsRecord (old new : S) (f : Fault) : Type 0 where
    takes : Takes taken calls old new (fault_text f ∷ [])

  read_record : (old new : S) (n : List ℕ) (code : ℕ)
      → Printed taken calls old new true (fault_doing (fault.Read n)) code
      → code ≡ 4 → IsRecord old new (fault.Read n)
  read_record old new n code p four = elim p.done [
    | inl all ↦ (let w : Wrote taken calls old new (whole (writes (fault_text (fault.Read n)) ∷ [])) =
        subst (λ (x : Made). Wrote taken calls old new x)
        (ap (λ l. (let x : Made = record { calls = l; torn = p.made.torn } in x)) all.calls
        ∙ ap (λ t. (let x : Made = record { calls = writes (fault_text (fault.Read n)) ∷ []; torn = t } in x))
        all.torn) p.wrote in
        record { takes = takes_wrote taken calls old new (writes (fault_text (fault.Read n)) ∷ []) w })
    | inr cut ↦ absurd (not_cut code four (cut_code _ code p.made cut.0))
  ]

  pub ends_at_read : {L : Type 0} (answers : L → List Answer) (lib_old mid lib_new : L) (some : List Answer)
      (old now new : S) (texts : List (List ℕ)) (n : List ℕ) (code : ℕ)
      → answers mid ≡ answers lib_old ++ some → EndsFailed (answers mid) (answers lib_new) (bytes n)
      → Takes taken calls old now texts → Printed taken calls now new true (fault_doing (fault.Read n)) code → code ≡ 4
      → EndsAtRead answers lib_old lib_new taken calls old new
  ends_at_read answers lib_old mid lib_new some old now new texts n code later last takes printed four = record {
    texts = texts;
    name = n;
    asks = fails_behind (answers lib_old) (answers mid) (answers lib_new) some (bytes n) later last;
    takes = takes_then taken calls old now new texts _ takes (read_record now new n code printed four).takes;
  }

-- ---- a run whatever a library answers

-- what was taken and answered so far
pub record Shown {L S : Type 0} (answers : L → List Answer) (holds : L → Option Files) (taken : S → List ℕ)
    (calls : S → ℕ) (lib_old lib_now : L) (old now : S) : Type 0 where
  pub texts : List (List ℕ)
  pub takes : Takes taken calls old now texts
  pub later : IsLater answers holds lib_old lib_now

not_status : (f : Fault) (code n : ℕ) → (status f ≡ n → ⊥) → (1 ≡ n → ⊥) → (5 ≡ n → ⊥)
    → (code ≡ status f) ⊎ CutsShort code → code ≡ n → ⊥
not_status f code n a b c is e = elim is [
  | inl x ↦ a (sym x ∙ e)
  | inr cut ↦ elim cut [ inl x ↦ b (sym x ∙ e) | inr x ↦ c (sym x ∙ e) ]
]

module _ {L S : Type 0} (answers : L → List Answer) (holds : L → Option Files) (sink_faults : S → ℕ)
    (taken : S → List ℕ) (calls : S → ℕ) where
  pub shown_nothing : (lib : L) (out : S) → Shown answers holds taken calls lib lib out out
  shown_nothing lib out =
      record { texts = []; takes = takes_none taken calls out; later = later_same answers holds lib }

  pub shown_more : (lib_old lib lib_new : L) (old now new : S) (made : List Call)
      → Shown answers holds taken calls lib_old lib old now → IsLater answers holds lib lib_new
      → Wrote taken calls now new (whole made)
      → Shown answers holds taken calls lib_old lib_new old new
  shown_more lib_old lib lib_new old now new made shown later wrote = record {
    texts = shown.texts ++ texts_written made;
    takes = takes_more taken calls old now new shown.texts made shown.takes wrote;
    later = later_then answers holds lib_old lib lib_new shown.later later;
  }

  -- ended with a fault's record or cut short, and neither usage nor a failed read
  pub untold_fault : (lib_old lib lib_new : L) (old now new : S) (code : ℕ)
      → Shown answers holds taken calls lib_old lib old now → IsLater answers holds lib lib_new
      → CutsShort code ⊎ EndsAtFault taken calls now new code → (code ≡ 2 → ⊥) → (code ≡ 4 → ⊥)
      → (code ≡ 5 → Rose (sink_faults old) (sink_faults new))
      → IsUntold answers holds sink_faults taken calls lib_old lib_new old new code
  untold_fault lib_old lib lib_new old now new code shown later is not_usage not_read write = record {
    statuses = inr (fault_behind taken calls old now new shown.texts code shown.takes is);
    later = later_then answers holds lib_old lib lib_new shown.later later;
    usage = not_usage;
    last = λ four. absurd (not_read four);
    write = write;
  }

  pub untold_refused : (lib_old lib lib_new : L) (old now new : S) (place : Place) (c : ScriptCause) (code : ℕ)
      → Shown answers holds taken calls lib_old lib old now → IsLater answers holds lib lib_new
      → Printed taken calls now new true (fault_doing (fault.Script place (cause.Script c))) code
      → (code ≡ 5 → Rose (sink_faults old) (sink_faults new))
      → IsUntold answers holds sink_faults taken calls lib_old lib_new old new code
  untold_refused lib_old lib lib_new old now new place c code shown later printed write =
      let f = fault.Script place (cause.Script c) in
      let is = fault_code taken calls now new f code printed in
      untold_fault lib_old lib lib_new old now new code shown later (fault_answers taken calls now new f code printed)
      (not_status f code 2 (λ e. omega (arith, e)) (λ e. omega (arith, e)) (λ e. omega (arith, e)) is)
      (not_status f code 4 (λ e. omega (arith, e)) (λ e. omega (arith, e)) (λ e. omega (arith, e)) is) write

  pub untold_read : (lib_old lib lib_new : L) (old now new : S) (n : List ℕ) (code : ℕ)
      → Shown answers holds taken calls lib_old lib old now → IsLater answers holds lib lib_new
      → EndsFailed (answers lib) (answers lib_new) (bytes n)
      → Printed taken calls now new true (fault_doing (fault.Read n)) code
      → (code ≡ 5 → Rose (sink_faults old) (sink_faults new))
      → IsUntold answers holds sink_faults taken calls lib_old lib_new old new code
  untold_read lib_old lib lib_new old now new n code shown later last printed write = record {
    statuses = inr
        (fault_behind taken calls old now new shown.texts code shown.takes
        (fault_answers taken calls now new (fault.Read n) code printed));
    later = later_then answers holds lib_old lib lib_new shown.later later;
    usage = not_status (fault.Read n) code 2 (λ e. omega (arith, e)) (λ e. omega (arith, e)) (λ e. omega (arith, e))
        (fault_code taken calls now new (fault.Read n) code printed);
    last = λ four. ends_at_read taken calls answers lib_old lib lib_new shown.later.since old now new shown.texts n
        code shown.later.told last shown.takes printed four;
    write = write;
  }

  pub untold_short : (lib_old lib lib_new : L) (old now : S) → Shown answers holds taken calls lib_old lib old now
      → IsLater answers holds lib lib_new
      → IsUntold answers holds sink_faults taken calls lib_old lib_new old now 1
  untold_short lib_old lib lib_new old now shown later = record {
    statuses = inr (inl (inl refl));
    later = later_then answers holds lib_old lib lib_new shown.later later;
    usage = λ e. omega (arith, e);
    last = λ e. absurd (omega (arith, e));
    write = λ e. absurd (omega (arith, e));
  }

  -- done to its end with nothing more
  pub untold_first : (lib : L) (out : S) → IsUntold answers holds sink_faults taken calls lib lib out out 1
  untold_first lib out = untold_short lib lib lib out out (shown_nothing lib out) (later_same answers holds lib)

  -- done to its end with these last texts, or cut short
  pub untold_last : (tells : Bool) (lib : L) (old new : S) (last : List Call) (code : ℕ)
      → Printed taken calls old new tells (record { calls = last; end = None }) code
      → (code ≡ 5 → Rose (sink_faults old) (sink_faults new))
      → IsUntold answers holds sink_faults taken calls lib lib old new code
  untold_last tells lib old new last code p write = elim p.done [
    | inl all ↦ record {
      statuses = inl all.status_is;
      later = later_same answers holds lib;
      usage = λ e. let is : code ≡ 0 = all.status_is in omega (arith, is, e);
      last = λ e. let is : code ≡ 0 = all.status_is in absurd (omega (arith, is, e));
      write = write;
    }
    | inr cut ↦ record {
      statuses = inr (inl (cut_code last code p.made cut.0));
      later = later_same answers holds lib;
      usage = λ e. not_usage code e (cut_code last code p.made cut.0);
      last = λ e. absurd (not_cut code e (cut_code last code p.made cut.0));
      write = write;
    }
  ]

  -- a history of the end is printed, and nothing is asked
  pub finishes_as : (style : Style) (tells : Bool) (lib : L) (old new : S) (begun : Bool) (code : ℕ)
      (P : History → Type 0)
      (h : History) → P h
      → Printed taken calls old new tells (record { calls = last_calls style begun h.events h.end; end = h.end }) code
      → Finishes style tells P answers taken calls lib lib old new begun code
  finishes_as style tells lib old new begun code P h is p = record {
    history = h;
    right = is;
    fails = None;
    cause = inl refl;
    made = p.made;
    done = p.done;
    sees = record {
      names = sym (ap (λ l. names_asked (answers lib) ++ l) p.wrote.names ∙ append-nil (names_asked (answers lib)));
      bytes = p.wrote.bytes_are;
      writes = p.wrote.writes_are;
    };
  }

  -- behind the last command of a command line that does nothing there
  pub finishes_last : (style : Style) (tells : Bool) (lib : L) (old new : S) (begun : Bool) (code : ℕ)
      → Printed taken calls old new tells (record { calls = last_calls style begun [] None; end = None }) code
      → Finishes style tells (λ h. h ≡ finishes []) answers taken calls lib lib old new begun code
  finishes_last style tells lib old new begun code p =
      finishes_as style tells lib old new begun code (λ h. h ≡ finishes []) (finishes []) refl p

  pub untold_done : (lib : L) (out : S) → IsUntold answers holds sink_faults taken calls lib lib out out 0
  untold_done lib out = record {
    statuses = inl refl;
    later = later_same answers holds lib;
    usage = λ e. omega (arith, e);
    last = λ e. absurd (omega (arith, e));
    write = λ e. absurd (omega (arith, e));
  }

  pub untold_finished : (lib_old lib mid lib_new : L) (old now new : S) (code : ℕ)
      → Shown answers holds taken calls lib_old lib old now → IsLater answers holds lib mid
      → sink_faults old ≤ sink_faults now
      → IsUntold answers holds sink_faults taken calls mid lib_new now new code
      → IsUntold answers holds sink_faults taken calls lib_old lib_new old new code
  untold_finished lib_old lib mid lib_new old now new code shown later sink u =
      let some = later_then answers holds lib_old lib mid shown.later later in
      record {
        statuses = answers_behind taken calls old now new shown.texts code shown.takes u.statuses;
        later = later_then answers holds lib_old mid lib_new some u.later;
        usage = u.usage;
        last = λ four. last_behind (u.last four);
        write = λ five. rose_since (sink_faults old) (sink_faults now) (sink_faults new) sink (u.write five);
      }
    where
      last_behind : EndsAtRead answers mid lib_new taken calls now new
          → EndsAtRead answers lib_old lib_new taken calls old new
      last_behind e =
          let some = later_then answers holds lib_old lib mid shown.later later in
          record {
            texts = shown.texts ++ e.texts;
            name = e.name;
            asks = fails_behind (answers lib_old) (answers mid) (answers lib_new) some.since
                (bytes e.name) some.told e.asks;
            takes = subst (λ l. Takes taken calls old new l)
                (sym (append_assoc shown.texts e.texts (fault_text (fault.Read e.name) ∷ [])))
                (takes_then taken calls old now new shown.texts
                (e.texts ++ fault_text (fault.Read e.name) ∷ []) shown.takes e.takes);
          }

-- ---- the status of a run

module _ {L S : Type 0} (answers : L → List Answer) (taken : S → List ℕ)
    (calls : S → ℕ) where
  pub run_due : (is_history : History → Type 0) (style : Style) (tells : Bool) (lib_old lib_new : L)
      (old new : S) (code : ℕ) (one : ExactlyOne is_history)
      → Runs answers taken calls lib_old lib_new old new is_history style tells code
      → IsDue one.some.end code (answers lib_old) (answers lib_new)
  run_due is_history style tells lib_old lib_new old new code one runs =
      due_of answers taken calls is_history style tells lib_old lib_new old new code one runs

-- ---- a fault alone

module _ {L S : Type 0} (answers : L → List Answer) (taken : S → List ℕ)
    (calls : S → ℕ) where
  pub fault_alone : (style : Style) (tells : Bool) (lib : L) (old new : S) (f : Fault) (code : ℕ)
      → Printed taken calls old new true (fault_doing f) code
      → Runs answers taken calls lib lib old new (λ h. h ≡ ended [] f) style tells code
  fault_alone style tells lib old new f code p = record {
    history = ended [] f;
    right = refl;
    fails = None;
    cause = inl refl;
    made = p.made;
    done = p.done;
    sees = record {
      names = sym (ap (λ l. names_asked (answers lib) ++ l) p.wrote.names ∙ append-nil (names_asked (answers lib)));
      bytes = p.wrote.bytes_are;
      writes = p.wrote.writes_are;
    };
  }

-- ---- exactly one

-- there is exactly one history, where each command comes to exactly one thing and so does the end
pub exactly_one_history : {S : Type 0} (is_step : Command → S → Step S → Type 0) (last_name : S → Option (List ℕ))
    (is_last : S → Option (List ℕ) → History → Type 0)
    → HistoryLaw is_step last_name is_last
exactly_one_history is_step last_name is_last = one_history is_step last_name is_last

pub exactly_this : {X : Type 0} (x : X) → ExactlyOne (λ (y : X). y ≡ x)
exactly_this x = one_value x
