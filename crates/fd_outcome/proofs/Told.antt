-- Where a text tells the end, no run that is cut short has made all calls.
use Rattle.std.proofs.Common.{◌≡◌, ◌∙◌, ℕ, ◌+◌, Bool, true, false, length, length-append, List, [], ◌∷◌, ◌++◌, map}
use Rattle.std.proofs.Common.{Option, Some, None, refl, sym, ap, subst, inl, inr, arith}
use Rattle.std.specs.Prelude.{◌||◌, is_some}
use Rattle.std.proofs.lemmas.List.{append_assoc}
use Rattle.fd_report.specs.dss_model.declared.command.Command.{Command}
use Rattle.fd_report.specs.dss_script.Said.{Said, name, command, ScriptEnd, at_its_end, refused_at}
use Rattle.fd_report.specs.declared.faults.Fault.{Fault}
use Rattle.fd_outcome.specs.Events.{Event, asked, History, before}
use Rattle.fd_outcome.specs.Work.{Step, goes, ends, AfterStep}
use Rattle.fd_outcome.specs.History.{IsLast, IsHistory}
use Rattle.fd_outcome.specs.Calls.{Call, reads, writes, Style, so_far, body, opened, calls_of, fault_text}
use Rattle.fd_outcome.specs.Done.{Made, IsFrontOf}
use Rattle.fd_outcome.specs.Behind.{behind, has_text, last_calls, opened_unless, TellsEnd}
use Rattle.fd_outcome.proofs.Lists.{body-append, opened-append}
use Rattle.fd_outcome.proofs.Printing.{append_is}

-- ---- lists that aren't empty

pub not_empty : {A : Type 0} (xs : List A) (y : A) (ys : List A) → xs ++ y ∷ ys ≡ [] → ⊥
not_empty [] y ys e = cc e
not_empty (x ∷ xs) y ys e = cc e

behind_empty : {A : Type 0} (xs ys : List A) → xs ++ ys ≡ [] → ys ≡ []
behind_empty [] ys e = e
behind_empty (x ∷ xs) ys e = cc e

opened_empty : (first : List (List ℕ)) (l : List Call) → opened first l ≡ [] → l ≡ []
opened_empty first [] e = refl
opened_empty first (reads n ∷ l) e = cc e
opened_empty first (writes text ∷ l) e = absurd (not_empty (map writes first) (writes text) l e)

opened_unless_empty : (t : Bool) (first : List (List ℕ)) (l : List Call) → opened_unless t first l ≡ [] → l ≡ []
opened_unless_empty true first l e = e
opened_unless_empty false first l e = opened_empty first l e

-- ---- fronts

-- a front of these calls is one of these and more
pub longer : (a rest : List Call) (code : ℕ) (m : Made) → IsFrontOf a code m → IsFrontOf (a ++ rest) code m
longer a rest code m is = elim is [
  | inl x ↦ inl (record {
    rest = x.rest ++ rest;
    calls = ap (λ l. l ++ rest) x.calls ∙ append_assoc m.calls x.rest rest;
    torn = x.torn;
    status_is = x.status_is;
  })
  | inr x ↦ inr (record {
    text = x.text;
    rest = x.rest ++ rest;
    calls = ap (λ l. l ++ rest) x.calls ∙ append_assoc m.calls (writes x.text ∷ x.rest) rest;
    front = x.front;
    torn = x.torn;
    cut = x.cut;
    status_is = x.status_is;
  })
]

no_less : (made rest more : List Call) → (more ≡ [] → ⊥) → made ≡ (made ++ rest) ++ more → ⊥
no_less made rest [] some e = some refl
no_less made rest (c ∷ more) some e =
    let f : length made ≡ length made + length rest + length (c ∷ more) =
    ap length e ∙ length-append (made ++ rest) (c ∷ more) ∙ ap (λ n. n + length (c ∷ more)) (length-append made rest) in
    absurd (omega (arith, f))

pub not_all : (a more : List Call) (code : ℕ) (m : Made) → IsFrontOf a code m → (more ≡ [] → ⊥)
    → m.calls ≡ a ++ more → ⊥
not_all a more code m is some e = elim is [
  | inl x ↦ no_less m.calls x.rest more some (e ∙ ap (λ l. l ++ more) x.calls)
  | inr x ↦ no_less m.calls (writes x.text ∷ x.rest) more some (e ∙ ap (λ l. l ++ more) x.calls)
]

-- ---- the last calls

module _ (style : Style) where
  -- all calls, as those of the first events and the last calls behind them
  pub last_behind : (a events : List Event) (end : Option Fault)
      → calls_of style (a ++ events) end ≡ so_far style a ++ last_calls style (has_text (body style a)) events end
  last_behind a events None =
      ap (λ l. opened style.opening (l ++ map writes style.closing)) (body-append style a events)
      ∙ ap (opened style.opening) (append_assoc (body style a) (body style events) (map writes style.closing))
      ∙ opened-append style.opening (body style a) (body style events ++ map writes style.closing)
  last_behind a events (Some f) =
      ap (λ l. l ++ writes (fault_text f) ∷ []) (append_is style a events)
      ∙ append_assoc (so_far style a) (behind style (has_text (body style a)) events) (writes (fault_text f) ∷ [])

  module _ (tells : Bool) where
    -- where these events end a run without a fault, a text tells it
    abbrev pub IsToldBy : List Event → Option Fault → Type 0
    IsToldBy events end = tells ≡ true → end ≡ None → body style events ++ map writes style.closing ≡ [] → ⊥

    pub last_told : (t : Bool) (events : List Event) (end : Option Fault) → (is_some end || tells) ≡ true
        → IsToldBy events end → last_calls style t events end ≡ [] → ⊥
    last_told t events None told by_end e =
        by_end told refl (opened_unless_empty t style.opening (body style events ++ map writes style.closing) e)
    last_told t events (Some f) told by_end e = not_empty (behind style t events) (writes (fault_text f)) [] e

    pub all_told : (events : List Event) (end : Option Fault) → (is_some end || tells) ≡ true → IsToldBy events end
        → calls_of style events end ≡ [] → ⊥
    all_told events None told by_end e = last_told false events None told by_end e
    all_told events (Some f) told by_end e = last_told false events (Some f) told by_end e

    pub told_more : (front events : List Event) (end : Option Fault) → IsToldBy events end
        → IsToldBy (front ++ events) end
    told_more front events end by_end told none e =
        by_end told none (behind_empty (body style front) (body style events ++ map writes style.closing)
        (sym (append_assoc (body style front) (body style events) (map writes style.closing))
        ∙ ap (λ l. l ++ map writes style.closing) (sym (body-append style front events)) ∙ e))

    told_before : (front : List Event) (more h : History) → IsToldBy more.events more.end → h ≡ before front more
        → IsToldBy h.events h.end
    told_before front more h by_end is =
        subst (λ (x : History). IsToldBy x.events x.end) (sym is) (told_more front more.events more.end by_end)

    pub told_fault : (events : List Event) (f : Fault) (h : History) → h ≡ record { events = events; end = Some f }
        → IsToldBy h.events h.end
    told_fault events f h is = subst (λ (x : History). IsToldBy x.events x.end) (sym is) (λ told none. cc none)

module _ {T : Type 0} (is_step : Command → T → Step T → Type 0) (last_name : T → Option (List ℕ))
    (is_last : T → Option (List ℕ) → History → Type 0) (held : List ℕ → Option (List ℕ)) (style : Style) (tells : Bool)
    (law : TellsEnd tells style is_last) where
  told_last : (n : Option (List ℕ)) (s : T) (h : History) → IsLast is_step last_name is_last held n s h
      → IsToldBy style tells h.events h.end
  told_last None s h is = λ told none e. law s None h told is none e
  told_last (Some n) s h is =
      told_before style tells (asked n ∷ []) is.more h
      (λ told none e. law s (held n) is.more told is.right none e) is.h_is

  -- whatever stands before a history
  pub told_history : (left : List Said) (end : ScriptEnd) (s : T) (h : History)
      → IsHistory is_step last_name is_last held left end s h → IsToldBy style tells h.events h.end
  told_history [] at_its_end s h is = told_last (last_name s) s h is
  told_history [] (refused_at place c) s h is = told_fault style tells [] _ h is
  told_history (name n ∷ more) end s h is =
      told_before style tells (asked n ∷ []) is.more h (told_history more end s is.more is.right) is.h_is
  told_history (command c ∷ more) end s h is =
      told_step is.step h is.goes_on (λ t x right. told_history more end t x right)
    where
      told_step : (step : Step T) (h : History)
          → AfterStep step (λ t x. IsHistory is_step last_name is_last held more end t x) h
          → ((t : T) (x : History) → IsHistory is_step last_name is_last held more end t x
          → IsToldBy style tells x.events x.end)
          → IsToldBy style tells h.events h.end
      told_step (goes events t) h after again =
          told_before style tells events after.more h (again t after.more after.right) after.h_is
      told_step (ends events f) h after again = told_fault style tells events f h after
