-- Laws of printing.
use Rattle.std.proofs.Common.{◌≡◌, ◌∙◌, ℕ, zero, suc, ◌+◌, Bool, true, List, [], ◌∷◌, ◌++◌, map, length, Option, Some}
use Rattle.std.proofs.Common.{None, refl, sym, ap, subst, inl, inr, arith}
use Rattle.std.specs.Prelude.{◌⊎◌, ◌||◌, is_some}
use Rattle.std.specs.List.{flat_map, concat}
use Rattle.std.proofs.lemmas.List.{append_assoc, append-nil}
use Rattle.fd_certfile.specs.fd_outside.Answers.{Answer, HasFailed}
use Rattle.fd_certfile.specs.fd_outside.Pieces.{Begins}
use Rattle.fd_certfile.specs.fd_outside.Emitted.{IsFront}
use Rattle.fd_certfile.proofs.CallerLemmas.fd_outside.{front_after, front_more, front_none, front_one}
use Rattle.fd_report.specs.dss_model.Names.{bytes}
use Rattle.fd_report.specs.declared.faults.Fault.{Fault}
use Rattle.fd_outcome.specs.Statuses.{status_of, want_of_memory, write_fault}
use Rattle.fd_outcome.specs.Events.{Event, History, before}
use Rattle.fd_outcome.specs.Work.{ExactlyOne}
use Rattle.fd_outcome.specs.Calls.{Call, reads, writes, Style, report, opened, body, so_far, calls_of, Doing, doing}
use Rattle.fd_outcome.specs.Calls.{fault_text, names_read, texts_written}
use Rattle.fd_outcome.specs.Done.{called_first, read_failing, failing, Made, IsAll, IsShort, IsTorn, IsDone}
use Rattle.fd_outcome.specs.Done.{HasReadCause, torn_bytes, torn_writes}
use Rattle.fd_outcome.specs.Behind.{has_text, behind, opened_unless}
use Rattle.fd_outcome.specs.Laws.{NamesLaw, IsReadFailing, ReadLaw, IsCut, CutLaw, IsDue}
use Rattle.fd_outcome.specs.Runs.{Runs}
use Rattle.fd_outcome.proofs.Lists.{opened-append, opened_behind, body-append, names-append, texts-append}
use Rattle.fd_outcome.proofs.Lists.{names_of_writes, names_of_opened, names_of_body}

-- ---- events that follow others

pub append_is : (style : Style) (a b : List Event)
    → so_far style (a ++ b) ≡ so_far style a ++ behind style (has_text (body style a)) b
append_is style a b =
    ap (opened (style.opening)) (body-append style a b)
    ∙ opened-append (style.opening) (body style a) (body style b)
    ∙ ap (λ l. so_far style a ++ l) (opened_behind style (has_text (body style a)) b)

front_by : (style : Style) (a events : List Event) (end : Option Fault)
    → (rest : List Call) × (calls_of style (a ++ events) end ≡ so_far style a ++ rest)
front_by style a events None =
    let last = map writes (style.closing) in (
      opened_unless (has_text (body style a)) (style.opening) (body style events ++ last),
      ap (λ l. opened (style.opening) (l ++ last)) (body-append style a events)
          ∙ ap (opened (style.opening)) (append_assoc (body style a) (body style events) last)
          ∙ opened-append (style.opening) (body style a) (body style events ++ last),
    )
front_by style a events (Some f) =
    let last = writes (fault_text f) ∷ [] in
    let more = behind style (has_text (body style a)) events in
    (more ++ last, ap (λ l. l ++ last) (append_is style a events) ∙ append_assoc (so_far style a) more last)

pub front_is : (style : Style) (a : List Event) (h : History)
    → (rest : List Call) × ((doing style (before a h)).calls ≡ so_far style a ++ rest)
front_is style a h = front_by style a h.events h.end

-- ---- names

names_by : (style : Style) (events : List Event) (end : Option Fault)
    → names_read (calls_of style events end) ≡ map bytes (flat_map (λ e. style.asked_in e) events)
names_by style events None =
    let last = map writes style.closing in
    names_of_opened style.opening (body style events ++ last)
    ∙ names-append (body style events) last
    ∙ ap (λ l. names_read (body style events) ++ l) (names_of_writes style.closing)
    ∙ append-nil (names_read (body style events))
    ∙ names_of_body style events
names_by style events (Some f) =
    names-append (so_far style events) (writes (fault_text f) ∷ [])
    ∙ append-nil (names_read (so_far style events))
    ∙ names_of_opened style.opening (body style events)
    ∙ names_of_body style events

pub names_are : NamesLaw
names_are h = names_by report h.events h.end

-- ---- a read that fails

abbrev at_calls : List Call → Option Fault → Doing
at_calls calls end = record { calls = calls; end = end }

ReadCase : ℕ → List Call → Option Fault → Type 0
ReadCase n calls end =
    (read_failing n calls end ≡ at_calls calls end) ⊎ IsReadFailing n (at_calls calls end) (read_failing n calls end)

read_by : (n : ℕ) (calls : List Call) (end : Option Fault) → ReadCase n calls end
unfolding ReadCase
read_by n [] end = inl refl
read_by n (writes text ∷ calls) end = elim (read_by n calls end) [
  | inl same ↦ inl (ap (called_first (writes text)) same)
  | inr r ↦ inr (record {
    front = writes text ∷ r.front;
    name = r.name;
    rest = r.rest;
    calls = ap (λ (l : List Call). writes text ∷ l) r.calls;
    reads_before = r.reads_before;
    calls_now = ap (λ (l : List Call). writes text ∷ l) r.calls_now;
    end_now = r.end_now;
  })
]
read_by zero (reads name ∷ calls) end = inr (record {
  front = [];
  name = name;
  rest = calls;
  calls = refl;
  reads_before = refl;
  calls_now = refl;
  end_now = refl;
})
read_by (suc n) (reads name ∷ calls) end = elim (read_by n calls end) [
  | inl same ↦ inl (ap (called_first (reads name)) same)
  | inr r ↦ inr (record {
    front = reads name ∷ r.front;
    name = r.name;
    rest = r.rest;
    calls = ap (λ (l : List Call). reads name ∷ l) r.calls;
    reads_before = omega (arith, r.reads_before);
    calls_now = ap (λ (l : List Call). reads name ∷ l) r.calls_now;
    end_now = r.end_now;
  })
]

pub read_is : ReadLaw
unfolding ReadCase
read_is n d = read_by n d.calls d.end

-- ---- cuts

-- whole texts
whole_front : (xs ys : List (List ℕ)) → IsFront (xs ++ ys) (length xs + 0) (concat xs ++ [])
whole_front xs ys = front_after xs ys 0 [] (front_none ys)

torn_front : (xs : List (List ℕ)) (text : List ℕ) (ys : List (List ℕ)) (front : List ℕ) → Begins front text
    → IsFront (xs ++ text ∷ ys) (length xs + 1) (concat xs ++ front)
torn_front xs text ys front begins =
    front_after xs (text ∷ ys) 1 front (front_more (text ∷ []) ys 1 front (front_one text front begins))

abbrev FrontAt : List (List ℕ) → List (List ℕ) → Option (List ℕ) → Type 0
FrontAt texts xs torn = IsFront texts (length xs + torn_writes torn) (concat xs ++ torn_bytes torn)

front_with : (texts xs ys : List (List ℕ)) (torn : Option (List ℕ)) → texts ≡ xs ++ ys → torn ≡ None
    → FrontAt texts xs torn
front_with texts xs ys torn e none =
    subst (λ t. FrontAt texts xs t) (sym none) (subst (λ l. FrontAt l xs None) (sym e) (whole_front xs ys))

rest_names : (d : Doing) (calls rest : List Call) → d.calls ≡ calls ++ rest
    → (more : List (List ℕ)) × (names_read d.calls ≡ names_read calls ++ more)
rest_names d calls rest e = (names_read rest, ap names_read e ∙ names-append calls rest)

all_cut : (tells : Bool) (d : Doing) (status : ℕ) (m : Made) → IsAll d status m → IsCut tells d status m
all_cut tells d status m a =
    let e : d.calls ≡ m.calls ++ [] = sym a.calls ∙ sym (append-nil m.calls) in
    record {
      is_front = front_with (texts_written d.calls) (texts_written m.calls) [] m.torn
          (ap texts_written e ∙ texts-append m.calls []) a.torn;
      names = rest_names d m.calls [] e;
      answers = inl a.status_is;
      whole = λ h. a.torn;
      complete = λ told all. a.status_is;
    }

short_cut : (tells : Bool) (d : Doing) (status : ℕ) (m : Made) → IsShort d.calls status m
    → ((is_some d.end || tells) ≡ true → m.calls ≡ d.calls → ⊥) → IsCut tells d status m
short_cut tells d status m a left = record {
  is_front = front_with (texts_written d.calls) (texts_written m.calls) (texts_written a.rest) m.torn
      (ap texts_written a.calls ∙ texts-append m.calls a.rest) a.torn;
  names = rest_names d m.calls a.rest a.calls;
  answers = inr (inl a.status_is);
  whole = λ h. a.torn;
  complete = λ told all. absurd (left told all);
}

torn_cut : (tells : Bool) (d : Doing) (status : ℕ) (m : Made) → IsTorn d.calls status m
    → ((is_some d.end || tells) ≡ true → m.calls ≡ d.calls → ⊥) → IsCut tells d status m
torn_cut tells d status m a left =
    let xs = texts_written m.calls in
    let e : texts_written d.calls ≡ xs ++ a.text ∷ texts_written a.rest =
    ap texts_written a.calls ∙ texts-append m.calls (writes a.text ∷ a.rest) in
    record {
      is_front = subst (λ t. FrontAt (texts_written d.calls) xs t) (sym a.torn)
          (subst (λ l. FrontAt l xs (Some a.front)) (sym e)
          (torn_front xs a.text (texts_written a.rest) a.front a.cut.begins));
      names = rest_names d m.calls (writes a.text ∷ a.rest) a.calls;
      answers = inr (inr a.status_is);
      whole = λ h. absurd (h a.status_is);
      complete = λ told all. absurd (left told all);
    }

pub cut_is : CutLaw
cut_is tells d status m is = elim is [
  | inl a ↦ all_cut tells d status m a
  | inr cut ↦ elim cut.0 [
    | inl a ↦ short_cut tells d status m a cut.1
    | inr a ↦ torn_cut tells d status m a cut.1
  ]
]

-- ---- statuses

-- the status of what is done of a history
pub Answered : Option Fault → Option ℕ → ℕ → Type 0
Answered end fails code =
    (code ≡ status_of end) ⊎ ((code ≡ want_of_memory) ⊎ ((code ≡ write_fault) ⊎ ((fails ≡ None → ⊥) × (code ≡ 4))))

by_end : (style : Style) (h : History) (fails : Option ℕ) (code : ℕ)
    → code ≡ status_of (failing fails (doing style h)).end → Answered h.end fails code
unfolding Answered
by_end style h None code e = inl e
by_end style h (Some n) code e = elim (read_is n (doing style h)) [
  | inl same ↦ inl (e ∙ ap (λ (d : Doing). status_of d.end) same)
  | inr r ↦ inr (inr (inr (λ none. cc none, e ∙ ap status_of r.end_now)))
]

pub answer_is : (style : Style) (tells : Bool) (h : History) (fails : Option ℕ) (code : ℕ) (m : Made)
    → IsDone tells (failing fails (doing style h)) code m → Answered h.end fails code
unfolding Answered
answer_is style tells h fails code m is = elim is [
  | inl a ↦ by_end style h fails code a.status_is
  | inr cut ↦ elim cut.0 [
    | inl a ↦ inr (inl a.status_is)
    | inr a ↦ inr (inr (inl a.status_is))
  ]
]

-- ---- the status of a run

fail_of : (before now : List Answer) (fails : Option ℕ) → HasReadCause before now fails → (fails ≡ None → ⊥)
    → HasFailed before now
fail_of before now fails cause fails_not = elim cause [
  | inl none ↦ absurd (fails_not none)
  | inr up ↦ up
]

DueAt : Option Fault → ℕ → List Answer → List Answer → Type 0
DueAt end code before now =
    (code ≡ status_of end) ⊎ ((code ≡ want_of_memory) ⊎ ((code ≡ write_fault) ⊎ (HasFailed before now × (code ≡ 4))))

due_at : (end : Option Fault) (fails : Option ℕ) (code : ℕ) (before now : List Answer) → HasReadCause before now fails
    → Answered end fails code → DueAt end code before now
unfolding Answered DueAt
due_at end fails code before now cause is = elim is [
  | inl a ↦ inl a
  | inr b ↦ elim b [
    | inl a ↦ inr (inl a)
    | inr d ↦ elim d [
      | inl a ↦ inr (inr (inl a))
      | inr a ↦ inr (inr (inr (fail_of before now fails cause a.0, a.1)))
    ]
  ]
]

completes : (end : Option Fault) (code : ℕ) (before now : List Answer) → DueAt end code before now
    → (HasFailed before now → ⊥)
    → (code ≡ write_fault → ⊥) → (code ≡ status_of end) ⊎ (code ≡ want_of_memory)
unfolding DueAt
completes end code before now is not_read not_written = elim is [
  | inl a ↦ inl a
  | inr b ↦ elim b [
    | inl a ↦ inr a
    | inr d ↦ elim d [
      | inl a ↦ absurd (not_written a)
      | inr a ↦ absurd (not_read a.0)
    ]
  ]
]

is_due : (end : Option Fault) (code : ℕ) (before now : List Answer) → DueAt end code before now
    → IsDue end code before now
unfolding DueAt
is_due end code before now at = record { is_due = at; complete = completes end code before now at }

module _ {L S : Type 0} (answers : L → List Answer) (taken : S → List ℕ)
    (calls : S → ℕ) where
  pub due_of : (is_history : History → Type 0) (style : Style) (tells : Bool) (lib_old lib_new : L)
      (old new : S) (code : ℕ) (one : ExactlyOne is_history)
      → Runs answers taken calls lib_old lib_new old new is_history style tells code
      → IsDue one.some.end code (answers lib_old) (answers lib_new)
  due_of is_history style tells lib_old lib_new old new code one runs =
      let same : runs.history ≡ one.some = one.only runs.history runs.right in
      let here = due_at runs.history.end runs.fails code (answers lib_old) (answers lib_new) runs.cause
      (answer_is style tells runs.history runs.fails code runs.made runs.done) in
      subst (λ (h : History). IsDue h.end code (answers lib_old) (answers lib_new)) same
      (is_due runs.history.end code (answers lib_old) (answers lib_new) here)
