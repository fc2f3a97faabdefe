-- A report with what stands behind its settles is the report of these events and those.
use Rattle.std.proofs.Common.{◌≡◌, ◌∙◌, ◌⊎◌, ℕ, Bool, true, false, List, [], ◌∷◌, ◌++◌, map, Some, refl, sym, ap, subst}
use Rattle.std.proofs.Common.{inl, inr}
use Rattle.std.specs.Prelude.{◌||◌}
use Rattle.std.specs.List.{AllByRecursion, flat_map}
use Rattle.std.proofs.lemmas.Grind.{flat_map-append}
use Rattle.std.proofs.lemmas.List.{append-nil, map-append}
use Rattle.fd_pages.specs.fd_bases.declared.bus_base.BusBase.{BusBase}
use Rattle.fd_pages.specs.fd_report.Bases.{base_fields}
use Rattle.fd_pages.specs.fd_outcome.Behind.{behind, has_text}
use Rattle.fd_pages.specs.fd_outcome.Calls.{Call, body, calls_in, fault_text, opened, report, report_with, writes}
use Rattle.fd_pages.specs.fd_outcome.Done.{IsDone, IsFrontOf, Made}
use Rattle.fd_pages.specs.fd_outcome.Events.{Event, asked, behind_settles, line, name_in, row, settle, swept, waits}
use Rattle.fd_pages.specs.fd_outcome.Events.{with_behind}
use Rattle.fd_pages.specs.fd_outcome.Pages.{report_texts}
use Rattle.fd_pages.specs.fd_outcome.Parts.{EndsAt, EndsSo, GoesOn, Wrote, events_in}
use Rattle.fd_pages.specs.fd_outcome.Settles.{Settle}
use Rattle.fd_pages.specs.fd_outcome.Way.{whole}
use Rattle.fd_pages.specs.fd_outcome.Work.{ExactlyOne, Step, ends, goes}
use Rattle.fd_pages.proofs.CallerLemmas.fd_outcome.{body-append}
use Rattle.fd_solving.specs.Solving.{IsSolutionStep, IsSolutionWith}
use Rattle.fd_solving.specs.Steps.{StandingView, step_with}
use Rattle.fd_solving.proofs.Handed.{silent_body}
use Rattle.fd_solving.proofs.Tests.{one_solution}

module _ (beside : Settle → List Event) (silent : (s : Settle) → AllByRecursion (λ e. name_in e ≡ []) (beside s)) where
  calls_with : (e : Event) → calls_in (report_with beside) e ≡ body report (with_behind beside e)
  calls_with (settle s) =
      map-append writes (report_texts (settle s)) (flat_map report_texts (beside s))
      ∙ ap (λ l. map writes (report_texts (settle s)) ++ l) (sym (silent_body report (beside s) (silent s)))
  calls_with (asked n) = sym (append-nil (calls_in report (asked n)))
  calls_with (waits c es) = sym (append-nil (calls_in report (waits c es)))
  calls_with (swept c m l) = sym (append-nil (calls_in report (swept c m l)))
  calls_with (row fields) = sym (append-nil (calls_in report (row fields)))
  calls_with (line text) = sym (append-nil (calls_in report (line text)))

  body_with : (events : List Event) → body (report_with beside) events ≡ body report (behind_settles beside events)
  body_with [] = refl
  body_with (e ∷ events) =
      ap (λ l. l ++ body (report_with beside) events) (calls_with e)
      ∙ ap (λ l. body report (with_behind beside e) ++ l) (body_with events)
      ∙ sym (body-append report (with_behind beside e) (behind_settles beside events))

  behind_with : (begun : Bool) (events : List Event)
      → behind (report_with beside) begun events ≡ behind report begun (behind_settles beside events)
  behind_with true events = body_with events
  behind_with false events = ap (opened []) (body_with events)

  -- a Solve that goes on or ends in the one report does so in the other
  module _ {S : Type 0} (taken : S → List ℕ) (calls : S → ℕ) (old new : S) (begun : Bool)
      (leave : StandingView → StandingView) (s : StandingView) where
    solved_with : (step : Step StandingView) → IsSolutionStep s step
        → IsSolutionWith beside leave s (step_with beside leave step)
    solved_with step right = record { solved = step; right = right; step_is = refl }

    pub goes_with : (now : Bool) (t : StandingView)
        → GoesOn (report_with beside) (IsSolutionStep s) t taken calls old new begun now
        → GoesOn report (IsSolutionWith beside leave s) (leave t) taken calls old new begun now
    goes_with now t g = record {
      events = behind_settles beside g.events;
      right = solved_with (goes g.events t) g.right;
      wrote = subst (λ (l : List Call). Wrote taken calls old new (whole l)) (behind_with begun g.events) g.wrote;
      begun_is = g.begun_is ∙ ap (λ l. begun || has_text l) (body_with g.events);
    }

    events_with : (step : Step StandingView)
        → events_in (step_with beside leave step) ≡ behind_settles beside (events_in step)
    events_with (goes events t) = refl
    events_with (ends events f) = refl

    ends_so : (step : Step StandingView) (code : ℕ) (made : Made) → EndsSo (report_with beside) begun step code made
        → EndsSo report begun (step_with beside leave step) code made
    ends_so (goes events t) code made front =
        subst (λ (l : List Call). IsFrontOf l code made) (behind_with begun events) front
    ends_so (ends events f) code made done =
        subst
        (λ (l : List Call). IsDone true (record { calls = l ++ writes (fault_text f) ∷ []; end = Some f }) code made)
        (behind_with begun events) done

    pub ends_with : (code : ℕ) → EndsAt (report_with beside) (IsSolutionStep s) taken calls old new begun code
        → EndsAt report (IsSolutionWith beside leave s) taken calls old new begun code
    ends_with code h = record {
      step = step_with beside leave h.step;
      right = solved_with h.step h.right;
      made = h.made;
      shown = behind_settles beside h.shown;
      hidden = behind_settles beside h.hidden;
      events_are = events_with h.step ∙ ap (behind_settles beside) h.events_are
          ∙ flat_map-append (with_behind beside) h.shown h.hidden;
      done = elim h.done [
        | inl all ↦ inl (ap (behind_settles beside) all.0, ends_so h.step code h.made all.1)
        | inr front ↦ inr (subst (λ (l : List Call). IsFrontOf l code h.made) (behind_with begun h.shown) front)
      ];
      wrote = h.wrote;
    }

-- such a Solve comes to exactly one thing
pub one_with : (beside : Settle → List Event) (leave : StandingView → StandingView) (s : StandingView)
    → ExactlyOne (IsSolutionWith beside leave s)
one_with beside leave s =
    let one = one_solution s in
    record {
      some = step_with beside leave one.some;
      is = record { solved = one.some; right = one.is; step_is = refl };
      only = λ step is. is.step_is ∙ ap (step_with beside leave) (one.only is.solved is.right);
    }

-- ---- single events

-- voltage bases have the same texts in both
pub bases_with : (beside : Settle → List Event) (bases : List BusBase)
    → flat_map report.texts_in (map (λ b. row (base_fields b.bus b.kv)) bases)
    ≡ flat_map (report_with beside).texts_in (map (λ b. row (base_fields b.bus b.kv)) bases)
bases_with beside [] = refl
bases_with beside (b ∷ bases) =
    ap (λ (texts : List (List ℕ)). report_texts (row (base_fields b.bus b.kv)) ++ texts) (bases_with beside bases)

-- a settle that nothing stands behind has its own texts
pub nothing_beside : (beside : Settle → List Event) (s : Settle) → beside s ≡ []
    → report_texts (settle s) ≡ (report_with beside).texts_in (settle s)
nothing_beside beside s none =
    sym (append-nil (report_texts (settle s)))
    ∙ ap (λ (events : List Event). report_texts (settle s) ++ flat_map report_texts events) (sym none)
