-- The way of a run.
use Rattle.std.proofs.Common.{◌≡◌, ◌∙◌, ℕ, ◌+◌, Bool, true, false, List, [], ◌∷◌, ◌++◌, map, length, length-append}
use Rattle.std.proofs.Common.{Option, Some, None, refl, sym, ap, subst, inl, inr, arith}
use Rattle.std.specs.List.{concat}
use Rattle.std.specs.Prelude.{◌||◌, is_some}
use Rattle.std.proofs.lemmas.List.{append_assoc, append_cancel_left, append-nil, map-append}
use Rattle.std.proofs.lemmas.List.Folds.{concat-append}
use Rattle.fd_certfile.specs.fd_outside.Answers.{Answer, HasFailed, names_asked}
use Rattle.fd_report.specs.dss_model.Names.{bytes}
use Rattle.fd_report.specs.dss_model.declared.command.Command.{Command}
use Rattle.fd_report.specs.dss_script.Said.{Said, name, ScriptEnd}
use Rattle.fd_report.specs.declared.faults.Fault.{Fault}
use Rattle.fd_report.specs.declared.faults.Fault.TheVariants as fault
use Rattle.fd_outcome.specs.Events.{Event, asked, History, before}
use Rattle.fd_outcome.specs.Work.{Step}
use Rattle.fd_outcome.specs.History.{Point, IsFrom, LeadsTo}
use Rattle.fd_outcome.specs.Calls.{Call, reads, writes, Style, opened, so_far, body, calls_in, doing, Doing, fault_text}
use Rattle.fd_outcome.specs.Calls.{names_read, texts_written}
use Rattle.fd_outcome.specs.Done.{called_first, read_failing, failing, Made, IsCutShort, IsDone, IsFrontOf, Sees}
use Rattle.fd_outcome.specs.Done.{torn_bytes, torn_writes}
use Rattle.fd_outcome.specs.Behind.{behind, has_text, AsksNames}
use Rattle.fd_outcome.specs.Runs.{Runs}
use Rattle.fd_outcome.specs.Way.{Way, whole}
use Rattle.fd_outcome.proofs.Histories.{stays, joins, asks_name}
use Rattle.fd_outcome.proofs.Lists.{names-append, texts-append, names_of_reads}
use Rattle.fd_outcome.proofs.Printing.{append_is, front_is}

-- ---- what is seen, and then more

abbrev pub made_after : List Call → Made → Made
made_after calls m = record { calls = calls ++ m.calls; torn = m.torn }

bytes_join : (bs : List ℕ) (a b : List Call) (torn : List ℕ)
    → (bs ++ (concat (texts_written a) ++ [])) ++ (concat (texts_written b) ++ torn) ≡ bs
    ++ (concat (texts_written (a ++ b)) ++ torn)
bytes_join bs a b torn =
    let x = concat (texts_written a) in
    let y = concat (texts_written b) in
    ap (λ l. (bs ++ l) ++ (y ++ torn)) (append-nil x)
    ∙ append_assoc bs x (y ++ torn)
    ∙ ap (λ l. bs ++ l) (sym (append_assoc x y torn)
    ∙ ap (λ l. l ++ torn) (sym (ap concat (texts-append a b) ∙ concat-append (texts_written a) (texts_written b))))

count_join : (n : ℕ) (a b : List Call) (k : ℕ)
    → n + (length (texts_written a) + 0) + (length (texts_written b) + k) ≡ n + (length (texts_written (a ++ b)) + k)
count_join n a b k =
    let e : length (texts_written (a ++ b)) ≡ length (texts_written a) + length (texts_written b) =
    ap length (texts-append a b) ∙ length-append (texts_written a) (texts_written b) in
    omega (arith, e)

texts_of_reads : (names : List (List ℕ)) → texts_written (map reads names) ≡ []
texts_of_reads [] = refl
texts_of_reads (n ∷ names) = texts_of_reads names

module _ {L S : Type 0} (answers : L → List Answer) (taken : S → List ℕ) (calls : S → ℕ) where
  pub sees_then : (lib_old lib_mid lib_new : L) (old mid new : S) (a : List Call) (m : Made)
      → Sees answers taken calls lib_old lib_mid old mid (whole a) → Sees answers taken calls lib_mid lib_new mid new m
      → Sees answers taken calls lib_old lib_new old new (made_after a m)
  sees_then lib_old lib_mid lib_new old mid new a m first second = record {
    names = second.names ∙ ap (λ l. l ++ names_read m.calls) first.names
        ∙ append_assoc (names_asked (answers lib_old)) (names_read a) (names_read m.calls)
        ∙ ap (λ l. names_asked (answers lib_old) ++ l) (sym (names-append a m.calls));
    bytes = second.bytes ∙ ap (λ l. l ++ (concat (texts_written m.calls) ++ torn_bytes m.torn)) first.bytes
        ∙ bytes_join (taken old) a m.calls (torn_bytes m.torn);
    writes = second.writes ∙ ap (λ n. n + (length (texts_written m.calls) + torn_writes m.torn)) first.writes
        ∙ count_join (calls old) a m.calls (torn_writes m.torn);
  }

  pub sees_nothing : (lib : L) (out : S) → Sees answers taken calls lib lib out out (whole [])
  sees_nothing lib out = record {
    names = sym (append-nil (names_asked (answers lib)));
    bytes = sym (append-nil (taken out));
    writes = omega arith;
  }

  pub sees_names : (lib lib_new : L) (out : S) (names : List (List ℕ))
      → names_asked (answers lib_new) ≡ names_asked (answers lib) ++ map bytes names
      → Sees answers taken calls lib lib_new out out (whole (map reads names))
  sees_names lib lib_new out names grown = record {
    names = grown ∙ ap (λ l. names_asked (answers lib) ++ l) (sym (names_of_reads names));
    bytes = sym (ap (λ l. taken out ++ (concat l ++ [])) (texts_of_reads names) ∙ append-nil (taken out));
    writes = let e : length (texts_written (map reads names))
        ≡ 0 = ap length (texts_of_reads names) in omega (arith, e);
  }

  pub sees_as : (lib_old lib_new : L) (old new : S) (a b : List Call) → a ≡ b
      → Sees answers taken calls lib_old lib_new old new (whole a)
      → Sees answers taken calls lib_old lib_new old new (whole b)
  sees_as lib_old lib_new old new a b e =
      subst (λ (l : List Call). Sees answers taken calls lib_old lib_new old new (whole l)) e

-- names alone are reads
reads_opened : (first : List (List ℕ)) (names : List (List ℕ)) → opened first (map reads names) ≡ map reads names
reads_opened first [] = refl
reads_opened first (n ∷ names) = ap (λ (l : List Call). reads n ∷ l) (reads_opened first names)

event_reads : (style : Style) → AsksNames style → (n : List ℕ) → calls_in style (asked n) ≡ reads n ∷ []
event_reads style fits n =
    ap (λ l. map reads l ++ map writes (style.texts_in (asked n))) (fits.asks n)
    ∙ ap (λ l. map reads (n ∷ []) ++ map writes l) (fits.silent n)

pub body_reads : (style : Style) → AsksNames style → (names : List (List ℕ))
    → body style (map asked names) ≡ map reads names
body_reads style h [] = refl
body_reads style h (n ∷ names) =
    ap (λ l. l ++ body style (map asked names)) (event_reads style h n)
    ∙ ap (λ (l : List Call). reads n ∷ l) (body_reads style h names)

pub reads_alone : (style : Style) → AsksNames style → (t : Bool) (names : List (List ℕ))
    → behind style t (map asked names) ≡ map reads names
reads_alone style h true names = body_reads style h names
reads_alone style h false names =
    ap (opened style.opening) (body_reads style h names) ∙ reads_opened style.opening names

-- ---- fronts of calls behind others

pub front_after : (a rest : List Call) (status : ℕ) (m : Made) → IsFrontOf rest status m
    → IsFrontOf (a ++ rest) status (made_after a m)
front_after a rest status m front = elim front [
  | inl x ↦ inl
      (record {
        rest = x.rest;
        calls = ap (λ l. a ++ l) x.calls
            ∙ sym (append_assoc a m.calls x.rest);
        torn = x.torn;
        status_is = x.status_is;
      })
  | inr x ↦ inr (record {
    text = x.text;
    rest = x.rest;
    calls = ap (λ l. a ++ l) x.calls ∙ sym (append_assoc a m.calls (writes x.text ∷ x.rest));
    front = x.front;
    torn = x.torn;
    cut = x.cut;
    status_is = x.status_is;
  })
]

pub short_after : (told : Bool) (a rest : List Call) (status : ℕ) (m : Made) → IsCutShort told rest status m
    → IsCutShort told (a ++ rest) status (made_after a m)
short_after told a rest status m cut =
    (front_after a rest status m cut.0, λ is all. cut.1 is (append_cancel_left a m.calls rest all))

pub done_after : (tells : Bool) (a rest : List Call) (all : List Call) (end : Option Fault) (status : ℕ) (m : Made)
    → all ≡ a ++ rest
    → IsDone tells (record { calls = rest; end = end }) status m
    → IsDone tells (record { calls = all; end = end }) status (made_after a m)
done_after tells a rest all end status m e is = elim is [
  | inl x ↦ inl (record { calls = ap (λ l. a ++ l) x.calls ∙ sym e; torn = x.torn; status_is = x.status_is })
  | inr cut ↦ inr (subst (λ l. IsCutShort (is_some end || tells) l status (made_after a m)) (sym e)
      (short_after (is_some end || tells) a rest status m cut))
]

-- as many reads go well as there are before the one that fails
fails_there : (a : List Call) (n : List ℕ) (rest : List Call) (end : Option Fault)
    → read_failing (length (names_read a)) (a ++ reads n ∷ rest) end
    ≡ record { calls = a ++ reads n ∷ writes (fault_text (fault.Read n)) ∷ []; end = Some (fault.Read n) }
fails_there [] n rest end = refl
fails_there (writes text ∷ a) n rest end = ap (called_first (writes text)) (fails_there a n rest end)
fails_there (reads other ∷ a) n rest end = ap (called_first (reads other)) (fails_there a n rest end)

-- ---- the way

module _ {T : Type 0} (is_step : Command → T → Step T → Type 0) (last_name : T → Option (List ℕ))
    (is_last : T → Option (List ℕ) → History → Type 0) (held : List ℕ → Option (List ℕ))
    {L S : Type 0} (answers : L → List Answer) (taken : S → List ℕ)
    (calls : S → ℕ) (style : Style) (tells : Bool) where
  abbrev pub WayTo : Point T → L → S → Point T → L → S → Type 0
  WayTo = Way is_step last_name is_last held answers taken calls style

  abbrev pub At : List Said → ScriptEnd → T → Point T
  At left end s = record { left = left; end = end; state = s }

  abbrev pub goes_on : (p q r : Point T) (lib_first lib lib_new : L) (out_first out out_new : S) (events : List Event)
      → (w : WayTo p lib_first out_first q lib out)
      → LeadsTo is_step last_name is_last held q events r
      → Sees answers taken calls lib lib_new out out_new (whole (behind style (has_text (body style w.events)) events))
      → WayTo p lib_first out_first r lib_new out_new
  goes_on p q r lib_first lib lib_new out_first out out_new events w leads sees = record {
    events = w.events ++ events;
    leads = joins is_step last_name is_last held p q r w.events events w.leads leads;
    seen =
        sees_as answers taken calls lib_first lib_new out_first out_new _ _ (sym (append_is style w.events events))
        (sees_then answers taken calls lib_first lib lib_new out_first out out_new (so_far style w.events)
        (whole (behind style (has_text (body style w.events)) events)) w.seen sees);
  }

  -- of the calls that are left from here, all are made or a front
  pub ended_at : (p q : Point T) (lib_first lib lib_new : L) (out_first out out_new : S) (h : History)
      (rest : List Call) (code : ℕ) (m : Made)
      → (w : WayTo p lib_first out_first q lib out) → IsFrom is_step last_name is_last held q h
      → (doing style (before w.events h)).calls ≡ so_far style w.events ++ rest
      → IsDone tells (record { calls = rest; end = h.end }) code m
      → Sees answers taken calls lib lib_new out out_new m
      → Runs answers taken calls lib_first lib_new out_first out_new
      (IsFrom is_step last_name is_last held p) style tells code
  ended_at p q lib_first lib lib_new out_first out out_new h rest code m w is rest_is done sees =
      record {
        history = before w.events h;
        right = w.leads h is;
        fails = None;
        cause = inl refl;
        made = made_after (so_far style w.events) m;
        done = done_after tells (so_far style w.events) rest
            (doing style (before w.events h)).calls h.end code m rest_is done;
        sees = sees_then answers taken calls lib_first lib lib_new out_first out out_new
            (so_far style w.events) m w.seen sees;
      }

  pub names_lead : (names : List (List ℕ)) (more : List Said) (end : ScriptEnd) (s : T)
      → LeadsTo is_step last_name is_last held (At (map name names ++ more) end s) (map asked names) (At more end s)
  names_lead [] more end s = stays is_step last_name is_last held (At more end s)
  names_lead (n ∷ names) more end s =
      joins is_step last_name is_last held (At (name n ∷ (map name names ++ more)) end s)
      (At (map name names ++ more) end s) (At more end s) (asked n ∷ []) (map asked names)
      (asks_name is_step last_name is_last held n (map name names ++ more) end s) (names_lead names more end s)

  -- where these events end with a name and its read fails, what was made of them is done
  unread_done : (events : List Event) (b : List Call) (n : List ℕ) (h : History) (code : ℕ) (m : Made)
      → so_far style events ≡ b ++ reads n ∷ []
      → IsDone tells
      (record { calls = b ++ reads n ∷ writes (fault_text (fault.Read n)) ∷ []; end = Some (fault.Read n) }) code m
      → IsDone tells (failing (Some (length (names_read b))) (doing style (before events h))) code m
  unread_done events b n h code m first at =
      let f = front_is style events h in
      let split : (doing style (before events h)).calls ≡ b ++ reads n ∷ f.0 =
      f.1 ∙ ap (λ l. l ++ f.0) first ∙ append_assoc b (reads n ∷ []) f.0 in
      let cut : failing (Some (length (names_read b))) (doing style (before events h))
      ≡ record { calls = b ++ reads n ∷ writes (fault_text (fault.Read n)) ∷ []; end = Some (fault.Read n) } =
      ap (λ (l : List Call). read_failing (length (names_read b)) l h.end) split ∙ fails_there b n f.0 h.end in
      subst (λ (d : Doing). IsDone tells d code m) (sym cut) at

  pub ended_at_read : (p : Point T) (lib_first lib lib_new : L) (out_first out out_new : S) → AsksNames style
      → (names : List (List ℕ)) (n : List ℕ) (more : List Said) (end : ScriptEnd) (s : T) (h : History) (code : ℕ)
      (m : Made)
      → WayTo p lib_first out_first (At (map name names ++ name n ∷ more) end s) lib out
      → IsFrom is_step last_name is_last held (At more end s) h → HasFailed (answers lib_first) (answers lib_new)
      → IsDone tells
      (record {
        calls = map reads names
            ++ reads n ∷ writes (fault_text (fault.Read n)) ∷ [];
        end = Some (fault.Read n);
      }) code m
      → Sees answers taken calls lib lib_new out out_new m
      → Runs answers taken calls lib_first lib_new out_first out_new
      (IsFrom is_step last_name is_last held p) style tells code
  ended_at_read p lib_first lib lib_new out_first out out_new fits names n more end s h code m w is up done sees =
      let a = so_far style w.events in
      let b = a ++ map reads names in
      let new = map asked names ++ asked n ∷ [] in
      let events = w.events ++ new in
      let q = At (map name names ++ name n ∷ more) end s in
      let r = At (name n ∷ more) end s in
      let z = At more end s in
      let leads = joins is_step last_name is_last held p q z w.events new w.leads
      (joins is_step last_name is_last held q r z (map asked names) (asked n ∷ [])
      (names_lead names (name n ∷ more) end s) (asks_name is_step last_name is_last held n more end s)) in
      let t = has_text (body style w.events) in
      let new_is : map asked (names ++ n ∷ []) ≡ new = map-append asked names (n ∷ []) in
      let alone : behind style t new ≡ map reads names ++ reads n ∷ [] =
      ap (behind style t) (sym new_is) ∙ reads_alone style fits t (names ++ n ∷ []) ∙ map-append reads names (n ∷ []) in
      let first : so_far style events ≡ b ++ reads n ∷ [] =
      append_is style w.events new ∙ ap (λ l. a ++ l) alone ∙ sym (append_assoc a (map reads names) (reads n ∷ [])) in
      let at : IsDone tells
      (record { calls = b ++ reads n ∷ writes (fault_text (fault.Read n)) ∷ []; end = Some (fault.Read n) }) code
      (made_after a m) =
      done_after tells a (map reads names ++ reads n ∷ writes (fault_text (fault.Read n)) ∷ []) _
      (Some (fault.Read n)) code m
      (append_assoc a (map reads names) (reads n ∷ writes (fault_text (fault.Read n)) ∷ [])) done in
      record {
        history = before events h;
        right = leads h is;
        fails = Some (length (names_read b));
        cause = inr up;
        made = made_after a m;
        done = unread_done events b n h code (made_after a m) first at;
        sees = sees_then answers taken calls lib_first lib lib_new out_first out out_new a m w.seen sees;
      }
