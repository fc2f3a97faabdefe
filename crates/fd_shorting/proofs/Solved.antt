-- What the hours of a circuit that is solved once come to is printed, and it is the end of the run.
use Rattle.std.proofs.Common.{◌≡◌, ◌∙◌, ◌⊎◌, ℕ, Bool, true, false, List, [], ◌∷◌, ◌++◌, map, Option, Some, None, inl}
use Rattle.std.proofs.Common.{inr, refl, sym, ap, subst}
use Rattle.std.specs.Prelude.{◌||◌, is_some}
use Rattle.std.specs.List.{AllByRecursion}
use Rattle.std.proofs.lemmas.List.{append-nil, append_assoc}
use Rattle.fd_fault.specs.dss_circuit.Circuit.{CircuitView}
use Rattle.fd_solving.specs.fd_daily.Underway.{no_positions}
use Rattle.fd_solving.specs.fd_outside.Answers.{Answer}
use Rattle.fd_solving.specs.fd_outside.Causes.{Rose}
use Rattle.fd_solving.specs.fd_outside.Files.{Files}
use Rattle.fd_solving.specs.fd_report.declared.faults.Fault.{Fault}
use Rattle.fd_solving.specs.fd_outcome.Behind.{behind, has_text, last_calls}
use Rattle.fd_solving.specs.fd_outcome.Calls.{Call, body, fault_text, opened, report, writes}
use Rattle.fd_solving.specs.fd_outcome.Done.{IsDone, IsFrontOf, Made}
use Rattle.fd_solving.specs.fd_outcome.Events.{Event, History, ended, finishes, name_in, row}
use Rattle.fd_solving.specs.fd_outcome.Parts.{EndsAt, EndsSo, Finishes, GoesOn, Printed, Wrote, events_in, fault_doing}
use Rattle.fd_solving.specs.fd_outcome.Settles.{Settle}
use Rattle.fd_solving.specs.fd_outcome.Untold.{Answers, IsUntold}
use Rattle.fd_solving.specs.fd_outcome.Way.{whole}
use Rattle.fd_solving.specs.fd_outcome.Work.{ExactlyOne, Step, ends, goes}
use Rattle.fd_solving.specs.Answered.{IsOfCommand}
use Rattle.fd_solving.specs.Solving.{IsSolutionStep}
use Rattle.fd_solving.specs.Steps.{StandingView, standing}
use Rattle.fd_solving.proofs.CallerLemmas.{ends_with, goes_with}
use Rattle.fd_solving.proofs.CallerLemmas.{never_read, never_usage, printed_cut}
use Rattle.fd_solving.proofs.CallerLemmas.fd_outside.{later_same}
use Rattle.fd_solving.proofs.CallerLemmas.fd_outcome.{behind-append, cut_before, fault_answers, finishes_as, longer}
use Rattle.fd_solving.proofs.CallerLemmas.fd_outcome.{not_all, not_empty, nothing_behind}
use Rattle.fd_shorting.specs.Pages.{its_phases, short_report, short_rows}
use Rattle.fd_shorting.specs.Placed.{IsPrintedOnce}
use Rattle.fd_shorting.specs.Shorting.{IsShortSolve, IsSolvedOnce}

-- ---- the last calls

-- nothing opens or closes the texts of a short circuit
last_is : (begun : Bool) (events : List Event) → last_calls report begun events None ≡ behind report begun events
last_is true events = append-nil (body report events)
last_is false events = ap (opened []) (append-nil (body report events))

done_as : (all a : List Call) (end : Option Fault) (code : ℕ) (m : Made) → all ≡ a
    → IsDone false (record { calls = a; end = end }) code m → IsDone false (record { calls = all; end = end }) code m
done_as all a end code m same done =
    subst (λ (l : List Call). IsDone false (record { calls = l; end = end }) code m) (sym same) done

-- ---- a circuit that is solved once

-- the records of the phases ask for no name
rows_ask_none : (rows : List (List (List ℕ))) → AllByRecursion (λ e. name_in e ≡ []) (map row rows)
rows_ask_none [] = tt
rows_ask_none (r ∷ rows) = (refl, rows_ask_none rows)

no_names : (s : Settle) → AllByRecursion (λ e. name_in e ≡ []) (its_phases s)
no_names s = rows_ask_none (short_rows s)

module _ {S : Type 0} (taken : S → List ℕ) (calls : S → ℕ) (old new : S) (begun : Bool) (c : CircuitView) where
  abbrev IsStep : Step StandingView → Type 0
  IsStep step = IsShortSolve c step

  solved_well : (events : List Event) (t : StandingView) → IsStep (goes events t) → IsSolvedOnce c (finishes events)
  solved_well events t right = record {
    step = goes events t;
    right = right;
    goes_on = record { more = finishes []; right = refl; h_is = ap finishes (sym (append-nil events)) };
  }

  solved_ill : (events : List Event) (f : Fault) → IsStep (ends events f) → IsSolvedOnce c (ended events f)
  solved_ill events f right = record { step = ends events f; right = right; goes_on = refl }

  -- what the code printed, in the report in which the phases stand with their settle
  abbrev Solves : Step StandingView → Type 0
  Solves step = IsSolutionStep (standing c no_positions 0) step

  pub printed_well : (now : Bool) (t : StandingView) → GoesOn short_report Solves t taken calls old new begun now
      → IsPrintedOnce taken calls old new begun c 0
  printed_well now t goes_on =
      let g = goes_with its_phases no_names taken calls old new begun (λ s. s)
      (standing c no_positions 0) now t goes_on in
      record {
        history = finishes g.events;
        right = solved_well g.events t g.right;
        prints = record {
          made = whole (behind report begun g.events);
          done = inl (record { calls = sym (last_is begun g.events); torn = refl; status_is = refl });
          wrote = g.wrote;
        };
      }

  -- the texts of the events that are shown, and those behind them
  abbrev more_of : List Event → List Event → List Call
  more_of shown hidden = behind report (begun || has_text (body report shown)) hidden

  split : (events shown hidden : List Event) → events ≡ shown ++ hidden
      → behind report begun events ≡ behind report begun shown ++ more_of shown hidden
  split events shown hidden e = ap (behind report begun) e ∙ behind-append report begun shown hidden

  cut_well : (events : List Event) (code : ℕ) (m : Made) → IsFrontOf (behind report begun events) code m
      → IsDone false (record { calls = last_calls report begun events None; end = None }) code m
  cut_well events code m front =
      done_as (last_calls report begun events None) (behind report begun events) None code m (last_is begun events)
      (inr (front, λ told. absurd (cc told)))

  cut_ill : (shown hidden : List Event) (f : Fault) (code : ℕ) (m : Made) → IsFrontOf (behind report begun shown) code m
      → IsDone false
      (record { calls = behind report begun (shown ++ hidden) ++ writes (fault_text f) ∷ []; end = Some f }) code m
  cut_ill shown hidden f code m front =
      let first = behind report begun shown in
      let last = writes (fault_text f) ∷ [] in
      let more = more_of shown hidden ++ last in
      let same : behind report begun (shown ++ hidden) ++ last ≡ first ++ more =
      ap (λ (l : List Call). l ++ last) (split (shown ++ hidden) shown hidden refl)
      ∙ append_assoc first (more_of shown hidden) last in
      done_as (behind report begun (shown ++ hidden) ++ last) (first ++ more) (Some f) code m same
      (inr (
        longer first more code m front,
        λ told. not_all first more code m front (not_empty (more_of shown hidden) (writes (fault_text f)) []),
      ))

  printed_by : (step : Step StandingView) (code : ℕ) (m : Made) (shown hidden : List Event) → IsStep step
      → events_in step ≡ shown ++ hidden
      → ((hidden ≡ []) × EndsSo report begun step code m) ⊎ IsFrontOf (behind report begun shown) code m
      → Wrote taken calls old new m → IsPrintedOnce taken calls old new begun c code
  printed_by (goes events t) code m shown hidden right e done wrote = record {
    history = finishes events;
    right = solved_well events t right;
    prints = record {
      made = m;
      done = elim done [
        | inl all ↦ cut_well events code m all.1
        | inr front ↦ cut_well events code m
            (subst (λ (l : List Call). IsFrontOf l code m) (sym (split events shown hidden e))
            (longer (behind report begun shown) (more_of shown hidden) code m front))
      ];
      wrote = wrote;
    };
  }
  printed_by (ends events f) code m shown hidden right e done wrote = record {
    history = ended events f;
    right = solved_ill events f right;
    prints = record {
      made = m;
      done = elim done [
        | inl all ↦ all.1
        | inr front ↦ subst
            (λ (es : List Event). IsDone false
            (record { calls = behind report begun es ++ writes (fault_text f) ∷ []; end = Some f }) code m)
            (sym e) (cut_ill shown hidden f code m front)
      ];
      wrote = wrote;
    };
  }

  pub printed_ill : (code : ℕ) → EndsAt short_report Solves taken calls old new begun code
      → IsPrintedOnce taken calls old new begun c code
  printed_ill code ended =
      let e = ends_with its_phases no_names taken calls old new begun (λ s. s) (standing c no_positions 0) code ended in
      printed_by e.step code e.made e.shown e.hidden e.right e.events_are e.done e.wrote

-- ---- the end of the run

module _ {L S : Type 0} (answers : L → List Answer) (holds : L → Option Files) (sink_faults : S → ℕ)
    (taken : S → List ℕ)
    (calls : S → ℕ) (lib : L) (old new : S) where
  abbrev Ends : (History → Type 0) → Bool → ℕ → Type 0
  Ends P begun code = Finishes report false P answers taken calls lib lib old new begun code

  -- a fault's record is printed there
  pub finishes_fault : (P : History → Type 0) (begun : Bool) (code : ℕ) (f : Fault) → P (ended [] f)
      → Printed taken calls old new true (fault_doing f) code → Ends P begun code
  finishes_fault P begun code f is p =
      finishes_as answers holds sink_faults taken calls report false lib old new begun code P (ended [] f) is (record {
        made = p.made;
        done = done_as (behind report begun [] ++ writes (fault_text f) ∷ []) (writes (fault_text f) ∷ [])
            (Some f) code p.made
            (ap (λ (l : List Call). l ++ writes (fault_text f) ∷ []) (nothing_behind report begun)) p.done;
        wrote = p.wrote;
      })

  pub untold_by : (code : ℕ) → Answers taken calls old new code → (code ≡ 2 → ⊥) → (code ≡ 4 → ⊥)
      → (code ≡ 5 → Rose (sink_faults old) (sink_faults new))
      → IsUntold answers holds sink_faults taken calls lib lib old new code
  untold_by code is usage read write = record {
    statuses = is;
    later = later_same answers holds lib;
    usage = usage;
    last = λ four. absurd (read four);
    write = write;
  }

  pub untold_end : (f : Fault) (code : ℕ) → IsOfCommand f → Printed taken calls old new true (fault_doing f) code
      → (code ≡ 5 → Rose (sink_faults old) (sink_faults new))
      → IsUntold answers holds sink_faults taken calls lib lib old new code
  untold_end f code of_command p write =
      untold_by code (inr (fault_answers taken calls old new f code p))
      (never_usage taken calls old new _ f code of_command p)
      (never_read taken calls old new _ f code of_command p) write

-- memory runs out before anything is printed
module _ {L S : Type 0} (answers : L → List Answer) (holds : L → Option Files) (sink_faults : S → ℕ)
    (taken : S → List ℕ)
    (calls : S → ℕ) (lib : L) (out : S) where
  some_last : (begun : Bool) (events : List Event) (end : Option Fault) → (is_some end || false) ≡ true
      → last_calls report begun events end ≡ [] → ⊥
  some_last begun events None told e = cc told
  some_last begun events (Some f) told e = not_empty (behind report begun events) (writes (fault_text f)) [] e

  pub finishes_short_of_memory : (P : History → Type 0) (begun : Bool) → ExactlyOne P
      → Finishes report false P answers taken calls lib lib out out begun 1
  finishes_short_of_memory P begun one =
      let h = one.some in
      finishes_as answers holds sink_faults taken calls report false lib out out begun 1 P h one.is
      (printed_cut taken calls false out out (last_calls report begun h.events h.end) h.end 1
      (λ told e. some_last begun h.events h.end told e)
      (cut_before taken calls out (last_calls report begun h.events h.end)))
