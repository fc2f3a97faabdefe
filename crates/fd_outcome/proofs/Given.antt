-- What a session gives, and what was written and read behind what stood before.
use Rattle.std.proofs.Common.{◌≡◌, ◌∙◌, ℕ, zero, suc, ◌+◌, ◌≤◌, length, Bool, true, false, List, [], ◌∷◌, ◌++◌, map}
use Rattle.std.proofs.Common.{Option, Some, None, Result, Ok, Err, refl, sym, ap, inl, inr, arith}
use Rattle.std.specs.Prelude.{◌||◌}
use Rattle.std.specs.List.{concat}
use Rattle.std.proofs.lemmas.List.{append_assoc, append-nil, map-append}
use Rattle.fd_certfile.specs.fd_outside.Answers.{Answer}
use Rattle.fd_certfile.specs.fd_outside.Causes.{Rose}
use Rattle.fd_certfile.specs.fd_outside.Emitted.{Takes}
use Rattle.fd_certfile.proofs.CallerLemmas.fd_outside.{failed_behind}
use Rattle.fd_report.specs.dss_model.Names.{bytes}
use Rattle.fd_report.specs.dss_model.declared.command.Command.{Command}
use Rattle.fd_report.specs.dss_script.Script.{Script, names_first, after_names}
use Rattle.fd_report.specs.dss_script.Said.{name, said_in, end_in}
use Rattle.fd_report.specs.dss_script.SaidLaws.{SaidLaw}
use Rattle.fd_report.specs.dss_script.Sessions.{State, Asks, Tells, remaining}
use Rattle.fd_report.specs.dss_script.declared.fault.SessionFault.{SessionFault}
use Rattle.fd_report.specs.dss_script.declared.fault.SessionFault.TheVariants as session
use Rattle.fd_certfile.specs.fd_outside.Files.{Files}
use Rattle.fd_report.specs.declared.faults.Fault.{Fault}
use Rattle.fd_outcome.specs.Events.{Event, asked}
use Rattle.fd_outcome.specs.Calls.{Call, reads, writes, Style, body, Doing, names_read, texts_written}
use Rattle.fd_outcome.specs.Done.{called_first, read_failing, failing, Sees, HasReadCause}
use Rattle.fd_outcome.specs.Behind.{behind, has_text, AsksNames}
use Rattle.fd_outcome.specs.Way.{whole}
use Rattle.fd_outcome.specs.Parts.{Wrote, Asked, Gives}
use Rattle.fd_outcome.proofs.Lists.{body-append}
use Rattle.fd_outcome.proofs.Printing.{append_is}
use Rattle.fd_outcome.proofs.Ways.{body_reads, sees_nothing}

-- ---- what a session gives

module _ (law : SaidLaw) (files : Files) where
  asked_first : (script rest : Script) (old new : List (List ℕ)) → after_names script ≡ rest
      → new ≡ old ++ map bytes (names_first script) → Asked (said_in script) (said_in rest) old new
  asked_first script rest old new e grown = record {
    names = names_first script;
    left_is = law.names script ∙ ap (λ r. map name (names_first script) ++ said_in r) e;
    grown = grown;
  }

  end_first : (script rest : Script) → after_names script ≡ rest → end_in script ≡ end_in rest
  end_first script rest e = sym (law.after script) ∙ ap end_in e

  pub gives_next : (script : Script) (state : State) (old new : List (List ℕ))
      (result : Result (Option Command) SessionFault)
      → Tells files (after_names script) state result → Asks old new (names_first script) result
      → Gives (said_in script) (end_in script) (said_in (remaining files state))
      (end_in (remaining files state)) old new result
  gives_next script state old new (Ok (Some c)) tells asks =
      (asked_first script _ old new tells asks, sym (end_first script _ tells))
  gives_next script state old new (Ok None) tells asks =
      (asked_first script _ old new tells.0 asks, end_first script _ tells.0)
  gives_next script state old new (Err (session.Script place c)) tells asks =
      (asked_first script _ old new tells asks, end_first script _ tells)
  gives_next script state old new (Err (session.Read unread)) tells asks = record {
    names = asks.front;
    more = map name asks.rest ++ said_in (after_names script);
    left_is = law.names script ∙ ap (λ ns. map name ns ++ said_in (after_names script)) asks.parts
        ∙ ap (λ l. l ++ said_in (after_names script)) (map-append name asks.front (unread ∷ asks.rest))
        ∙ append_assoc (map name asks.front) (name unread ∷ map name asks.rest) (said_in (after_names script));
    grown = asks.grown;
  }
  gives_next script state old new (Err session.NoMemory) tells asks = record {
    rest = map name asks.rest ++ said_in (after_names script);
    asked = record {
      names = asks.front;
      left_is = law.names script ∙ ap (λ ns. map name ns ++ said_in (after_names script)) asks.parts
          ∙ ap (λ l. l ++ said_in (after_names script)) (map-append name asks.front asks.rest)
          ∙ append_assoc (map name asks.front) (map name asks.rest) (said_in (after_names script));
      grown = asks.grown;
    };
  }
  gives_next script state old new (Err session.Ended) tells asks = record {
    rest = said_in script;
    asked = record {
      names = [];
      left_is = refl;
      grown = asks ∙ sym (append-nil old);
    };
  }

-- ---- writes

module _ {S : Type 0} (taken : S → List ℕ) (calls : S → ℕ) where
  pub wrote_nothing : (out : S) → Wrote taken calls out out (whole [])
  wrote_nothing out = record {
    names = refl;
    bytes_are = sym (append-nil (taken out));
    writes_are = omega arith;
  }

  pub takes_wrote : (old new : S) (made : List Call) → Wrote taken calls old new (whole made)
      → Takes taken calls old new (texts_written made)
  takes_wrote old new made w = record {
    bytes = w.bytes_are ∙ ap (λ l. taken old ++ l) (append-nil (concat (texts_written made)));
    writes = omega (arith, w.writes_are);
  }

pub sees_none : {L S : Type 0} (answers : L → List Answer) (taken : S → List ℕ) (calls : S → ℕ) (lib : L) (out : S)
    → Sees answers taken calls lib lib out out (whole [])
sees_none answers taken calls lib out = sees_nothing answers taken calls lib out

-- ---- whether a text was written

pub or_false : (b : Bool) → (b || false) ≡ b
or_false true = refl
or_false false = refl

pub has_text-append : (a b : List Call) → has_text (a ++ b) ≡ (has_text a || has_text b)
has_text-append [] b = refl
has_text-append (reads n ∷ a) b = has_text-append a b
has_text-append (writes text ∷ a) b = refl

-- events behind others
pub behind-append : (style : Style) (t : Bool) (a b : List Event)
    → behind style t (a ++ b) ≡ behind style t a ++ behind style (t || has_text (body style a)) b
behind-append style true a b = body-append style a b
behind-append style false a b = append_is style a b

-- whether a text was written, with one event more
pub text_behind : (style : Style) (t : Bool) (a b : List Event)
    → ((t || has_text (body style a)) || has_text (body style b)) ≡ (t || has_text (body style (a ++ b)))
text_behind style true a b = refl
text_behind style false a b =
    sym (has_text-append (body style a) (body style b)) ∙ ap has_text (sym (body-append style a b))

pub nothing_behind : (style : Style) (t : Bool) → behind style t [] ≡ []
nothing_behind style true = refl
nothing_behind style false = refl

no_text : (names : List (List ℕ)) → has_text (map reads names) ≡ false
no_text [] = refl
no_text (n ∷ names) = no_text names

pub still : (style : Style) → AsksNames style → (events : List Event) (names : List (List ℕ))
    → has_text (body style (events ++ map asked names)) ≡ has_text (body style events)
still style fits events names =
    ap has_text (body-append style events (map asked names))
    ∙ has_text-append (body style events) (body style (map asked names))
    ∙ ap (λ b. has_text (body style events) || b) (ap has_text (body_reads style fits names) ∙ no_text names)
    ∙ or_false (has_text (body style events))

-- ---- a read that fails behind others

abbrev pub called_all : List Call → Doing → Doing
called_all a d = record { calls = a ++ d.calls; end = d.end }

read_behind : (a : List Call) (n k : ℕ) (rest : List Call) (end : Option Fault) → k ≡ length (names_read a) + n
    → read_failing k (a ++ rest) end ≡ called_all a (read_failing n rest end)
read_behind [] n k rest end e = ap (λ (j : ℕ). read_failing j rest end) (let f : k ≡ n = omega (arith, e) in f)
read_behind (writes text ∷ a) n k rest end e = ap (called_first (writes text)) (read_behind a n k rest end e)
read_behind (reads m ∷ a) n zero rest end e = absurd (omega (arith, e))
read_behind (reads m ∷ a) n (suc k) rest end e =
    ap (called_first (reads m)) (read_behind a n k rest end (omega (arith, e)))

abbrev pub reads_after : List (List ℕ) → Option ℕ → Option ℕ
reads_after names None = None
reads_after names (Some n) = Some (length names + n)

pub failing_behind : (a : List Call) (fails : Option ℕ) (rest : List Call) (end : Option Fault)
    → failing (reads_after (names_read a) fails) (called_all a (record { calls = rest; end = end }))
    ≡ called_all a (failing fails (record { calls = rest; end = end }))
failing_behind a None rest end = refl
failing_behind a (Some n) rest end = read_behind a n (length (names_read a) + n) rest end refl

pub rose_since : (first mid now : ℕ) → first ≤ mid → Rose mid now → Rose first now
rose_since first mid now le rose = omega (arith, le, rose)

pub cause_after : (first mid now some : List Answer) (names : List (List ℕ)) (fails : Option ℕ) → mid ≡ first ++ some
    → HasReadCause mid now fails → HasReadCause first now (reads_after names fails)
cause_after first mid now some names None later cause = inl refl
cause_after first mid now some names (Some n) later cause = elim cause [
  | inl none ↦ absurd (let e : Some n ≡ None = none in cc e)
  | inr failed ↦ inr (failed_behind first mid now some later failed)
]
