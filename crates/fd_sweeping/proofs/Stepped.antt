-- What a Solve of `ladder` comes to for the loop.
use Rattle.std.proofs.Common.{◌≡◌, ◌∙◌, ℕ, Bool, List, [], slice_get, Option, Some, None, Result, Ok, Err, refl, sym}
use Rattle.std.proofs.Common.{ap, subst}
use Rattle.std.specs.List.{AllByRecursion}
use Rattle.fd_solving.specs.dss_model.InRange.{OptionsInRange}
use Rattle.fd_solving.specs.dss_model.declared.options.Options.{Options}
use Rattle.fd_solving.specs.dss_circuit.Circuit.{CircuitView, Elements}
use Rattle.fd_solving.specs.dss_ready.Ready.{HasPassed}
use Rattle.fd_sweep.specs.fd_ladder.Radial.{first_offending, order_of, radial_of, radial_unless}
use Rattle.fd_sweep.specs.fd_ladder.declared.fault.LadderFault.TheVariants.{NotRadial}
use Rattle.fd_solving.specs.fd_enclosure.Sound.{Claim}
use Rattle.fd_solving.specs.fd_report.declared.ladders.Ladder.{Ladder}
use Rattle.fd_solving.specs.fd_outcome.Calls.{report}
use Rattle.fd_solving.specs.fd_outcome.Events.{name_in}
use Rattle.fd_solving.specs.fd_outcome.Parts.{EndsAt, GoesOn}
use Rattle.fd_solving.specs.fd_outcome.Settles.{Round, Settle, SettleEnd, claim_in, failed, settled}
use Rattle.fd_solving.specs.fd_outcome.Settles.{without_certificate}
use Rattle.fd_solving.specs.fd_outcome.Work.{Step, ends}
use Rattle.fd_solving.specs.Solving.{IsSolutionStep}
use Rattle.fd_solving.specs.Steps.{StandingView}
use Rattle.fd_solving.proofs.CallerLemmas.{ends_with, goes_with}
use Rattle.fd_sweeping.specs.Pages.{its_sweep, ladder_report, sweep_behind, sweep_beside, sweep_event, swept_beside}
use Rattle.fd_sweeping.specs.Sweeping.{IsByOrder, IsSweptSolve, as_before, at_rest, not_radial, snapshot, sweeping}

-- ---- the circuit in snapshot

pub at_rest_within : (o : Options) → OptionsInRange o → OptionsInRange (at_rest o)
at_rest_within o h = record {
  number = h.number;
  maxiterations = h.maxiterations;
  tolerance = h.tolerance;
  maxcontroliter = h.maxcontroliter;
  voltagebases = h.voltagebases;
  defaultbasefrequency = h.defaultbasefrequency;
}

pub passed_at_rest : (c : CircuitView) → HasPassed c → HasPassed (snapshot c)
passed_at_rest c ready = record { no_own = ready.no_own; not_many = ready.not_many; all_fed = ready.all_fed }

pub snapshot_is : (c now : CircuitView) (kept resting : Options) → kept ≡ c.options → resting ≡ at_rest kept
    → now ≡ record c { options = resting } → now ≡ snapshot c
snapshot_is c now kept resting kept_is resting_is is =
    is ∙ (λ i. record c { options = (resting_is ∙ ap at_rest kept_is) i })

-- ---- a Solve

-- a sweep asks for no name
no_names : (s : Settle) → AllByRecursion (λ e. name_in e ≡ []) (its_sweep s)
no_names s = by_end s.end
  where
    by_sweep : (m : Claim) (o : Option Ladder) → AllByRecursion (λ e. name_in e ≡ []) (sweep_event s.circuit m o)
    by_sweep m None = tt
    by_sweep m (Some l) = (refl, tt)

    by_round : (o : Option Round) → AllByRecursion (λ e. name_in e ≡ []) (sweep_beside s.circuit o)
    by_round None = tt
    by_round (Some r) = by_sweep (claim_in r) (swept_beside s.circuit (claim_in r))

    by_end : (end : SettleEnd) → AllByRecursion (λ e. name_in e ≡ []) (sweep_behind s end)
    by_end settled = by_round (slice_get s.rounds 0)
    by_end (failed f) = tt
    by_end (without_certificate r f) = tt

module _ {S : Type 0} (taken : S → List ℕ) (calls : S → ℕ) (old new : S) (begun : Bool) (c : CircuitView) (n : ℕ) where
  abbrev Solved : Step StandingView → Type 0
  Solved step = IsSolutionStep (sweeping (snapshot c) n) step

  pub goes_swept : (now : Bool) (t : StandingView) → GoesOn ladder_report Solved t taken calls old new begun now
      → GoesOn report (IsSweptSolve c n) (as_before c t) taken calls old new begun now
  goes_swept = goes_with its_sweep no_names taken calls old new begun (as_before c) (sweeping (snapshot c) n)

  pub ends_swept : (code : ℕ) → EndsAt ladder_report Solved taken calls old new begun code
      → EndsAt report (IsSweptSolve c n) taken calls old new begun code
  ends_swept = ends_with its_sweep no_names taken calls old new begun (as_before c) (sweeping (snapshot c) n)

-- ---- the order

none_offends : (first : Option ℕ) (order : List ℕ) (v : List ℕ) → radial_unless first order ≡ Ok v → first ≡ None
none_offends None order v e = refl
none_offends (Some number) order v e = absurd (cc e)

one_offends : (first : Option ℕ) (order : List ℕ) (number : ℕ) → radial_unless first order ≡ Err (NotRadial number)
    → first ≡ Some number
one_offends None order number e = absurd (cc e)
one_offends (Some k) order number e = cc e

pub is_radial : (es : Elements) (v : List ℕ) → radial_of es ≡ Ok v → first_offending es ≡ None
is_radial es v e = none_offends (first_offending es) (order_of es) v e

pub isnt_radial : (es : Elements) (number : ℕ) → radial_of es ≡ Err (NotRadial number)
    → first_offending es ≡ Some number
isnt_radial es number e = one_offends (first_offending es) (order_of es) number e

-- another way to say the same of the order
pub by_order : (c : CircuitView) (n : ℕ) (first other : Option ℕ) (step : Step StandingView) → other ≡ first
    → IsByOrder c n first step
    → IsByOrder c n other step
by_order c n first other step e is = subst (λ (o : Option ℕ). IsByOrder c n o step) (sym e) is

pub refused_by_order : (c : CircuitView) (n number : ℕ) → first_offending c.elements ≡ Some number
    → IsByOrder c n (first_offending c.elements) (ends [] (not_radial c.elements number))
refused_by_order c n number e = by_order c n (Some number) (first_offending c.elements) _ e refl
