-- What is left to do behind the last command, where a name is asked for there.
use Rattle.std.proofs.Common.{◌≡◌, ◌∙◌, ℕ, Bool, true, false, List, [], ◌∷◌, ◌++◌, map, Option, Some, None, refl, sym}
use Rattle.std.proofs.Common.{ap, subst, inl, inr, arith}
use Rattle.std.proofs.lemmas.List.{append-nil}
use Rattle.fd_certfile.specs.fd_outside.Answers.{Answer, HasFailed, names_asked}
use Rattle.fd_report.specs.dss_model.Names.{bytes}
use Rattle.fd_report.specs.declared.faults.Fault.{Fault}
use Rattle.fd_report.specs.declared.faults.Fault.TheVariants as fault
use Rattle.fd_outcome.specs.Events.{Event, asked, History, before}
use Rattle.fd_outcome.specs.Calls.{Call, reads, writes, Style, body, opened, fault_text, names_read}
use Rattle.fd_outcome.specs.Done.{Made, IsDone, read_failing}
use Rattle.fd_outcome.specs.Behind.{last_calls, AsksNames}
use Rattle.fd_outcome.specs.Parts.{Finishes, Printed, fault_doing}
use Rattle.fd_outcome.specs.Way.{whole}
use Rattle.fd_outcome.proofs.Ways.{done_after, made_after}

-- ---- the calls of events behind a name

module _ (style : Style) (fits : AsksNames style) where
  body_asked : (n : List ℕ) (es : List Event) → body style (asked n ∷ es) ≡ reads n ∷ body style es
  body_asked n es =
      ap (λ (names : List (List ℕ)). (map reads names ++ map writes (style.texts_in (asked n))) ++ body style es)
      (fits.asks n)
      ∙ ap (λ (texts : List (List ℕ)). ((reads n ∷ []) ++ map writes texts) ++ body style es) (fits.silent n)

  last_asked : (n : List ℕ) (begun : Bool) (es : List Event) (end : Option Fault)
      → last_calls style begun (asked n ∷ es) end ≡ reads n ∷ last_calls style begun es end
  last_asked n true es None = ap (λ (l : List Call). l ++ map writes style.closing) (body_asked n es)
  last_asked n false es None =
      ap (λ (l : List Call). opened style.opening (l ++ map writes style.closing)) (body_asked n es)
  last_asked n true es (Some f) = ap (λ (l : List Call). l ++ writes (fault_text f) ∷ []) (body_asked n es)
  last_asked n false es (Some f) =
      ap (λ (l : List Call). opened style.opening l ++ writes (fault_text f) ∷ []) (body_asked n es)

  -- ---- what is done of it

  module _ {L S : Type 0} (answers : L → List Answer) (taken : S → List ℕ)
      (calls : S → ℕ) (tells : Bool) (P : History → Type 0) (n : List ℕ) (more : History)
      (is : P (before (asked n ∷ []) more)) (lib_old lib_new : L)
      (begun : Bool) where
    abbrev Ends : S → S → ℕ → Type 0
    Ends old new code = Finishes style tells P answers taken calls lib_old lib_new old new begun code

    grown_by : (m : Made) → names_read m.calls ≡ []
        → names_asked (answers lib_new) ≡ names_asked (answers lib_old) ++ bytes n ∷ []
        → names_asked (answers lib_new) ≡ names_asked (answers lib_old) ++ names_read (reads n ∷ m.calls)
    grown_by m none grown = grown ∙ ap (λ (l : List (List ℕ)). names_asked (answers lib_old) ++ bytes n ∷ l) (sym none)

    nothing_less : {c : Call} {l : List Call} → [] ≡ c ∷ l → ⊥
    nothing_less e = cc e

    -- what comes behind the name is printed
    pub finishes_asked : (old new : S) (code : ℕ)
        → names_asked (answers lib_new) ≡ names_asked (answers lib_old) ++ bytes n ∷ []
        → Printed taken calls old new tells
        (record { calls = last_calls style begun more.events more.end; end = more.end }) code
        → Ends old new code
    finishes_asked old new code grown p = record {
      history = before (asked n ∷ []) more;
      right = is;
      fails = None;
      cause = inl refl;
      made = made_after (reads n ∷ []) p.made;
      done = done_after tells (reads n ∷ []) (last_calls style begun more.events more.end)
          (last_calls style begun (asked n ∷ more.events) more.end) more.end code p.made
          (last_asked n begun more.events more.end) p.done;
      sees = record {
        names = grown_by p.made p.wrote.names grown;
        bytes = p.wrote.bytes_are;
        writes = p.wrote.writes_are;
      };
    }

    -- memory runs out before the name is asked
    pub finishes_short : (out : S) → names_asked (answers lib_new) ≡ names_asked (answers lib_old) ++ []
        → Ends out out 1
    finishes_short out same = record {
      history = before (asked n ∷ []) more;
      right = is;
      fails = None;
      cause = inl refl;
      made = whole [];
      done = inr (
        inl
            (record {
              rest = last_calls style begun
                  (asked n ∷ more.events) more.end;
              calls = refl;
              torn = refl;
              status_is = refl;
            }),
        λ told none. nothing_less (none ∙ last_asked n begun more.events more.end),
      );
      sees = record {
        names = same;
        bytes = sym (append-nil (taken out));
        writes = omega arith;
      };
    }

    -- the read of the file fails
    pub finishes_unread : (old new : S) (code : ℕ)
        → names_asked (answers lib_new) ≡ names_asked (answers lib_old) ++ bytes n ∷ []
        → HasFailed (answers lib_old) (answers lib_new)
        → Printed taken calls old new true (fault_doing (fault.Read n)) code → Ends old new code
    finishes_unread old new code grown failed p = record {
      history = before (asked n ∷ []) more;
      right = is;
      fails = Some 0;
      cause = inr failed;
      made = made_after (reads n ∷ []) p.made;
      done = subst (λ (l : List Call). IsDone tells (read_failing 0 l more.end) code (made_after (reads n ∷ []) p.made))
          (sym (last_asked n begun more.events more.end))
          (done_after tells (reads n ∷ []) (writes (fault_text (fault.Read n)) ∷ [])
          (reads n ∷ writes (fault_text (fault.Read n)) ∷ []) (Some (fault.Read n)) code p.made refl p.done);
      sees = record {
        names = grown_by p.made p.wrote.names grown;
        bytes = p.wrote.bytes_are;
        writes = p.wrote.writes_are;
      };
    }
