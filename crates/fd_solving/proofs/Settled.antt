-- What a settle whose states are computed comes to: its step, and its rounds, which are printed.
use Rattle.std.proofs.Common.{◌≡◌, ◌∙◌, ◌≤◌, ◌<◌, ◌+◌, ◌^◌, ℕ, List, [], ◌∷◌, map, length, Option, Some, None, Result}
use Rattle.std.proofs.Common.{Ok, Err, ap, refl, sym, subst, arith}
use Rattle.std.specs.Prelude.{All}
use Rattle.std.specs.List.{AllByRecursion}
use Rattle.std.proofs.lemmas.List.{length-map}
use Rattle.std.proofs.lemmas.List.Elements.{All-cons, All-nil}
use Rattle.fd_pages.specs.dss_layout.Layout.{LayoutView, layout_of, size_of}
use Rattle.fd_daily.specs.dss_ready.Ready.{HasPassed}
use Rattle.dss_commands.specs.dss_circuit.Circuit.{CircuitView}
use Rattle.fd_daily.specs.fd_pattern.Views.{NetworkView}
use Rattle.fd_daily.specs.fd_cert.Claims.{claim_in, support_in}
use Rattle.fd_pages.specs.fd_certfile.Rounds.{IsRoundOf}
use Rattle.fd_daily.specs.fd_cert.declared.fault.CertFault.TheVariants as cert
use Rattle.fd_daily.specs.fd_enclosure.Sound.{Claim, IsByInverse}
use Rattle.fd_daily.proofs.CallerLemmas.fd_enclosure.{is_by_inverse}
use Rattle.fd_daily.specs.fd_inject.declared.fault.SolveFault.TheVariants as solving
use Rattle.fd_daily.specs.fd_inject.declared.limits.Limits.{Limits}
use Rattle.fd_daily.specs.fd_settings.Hours.{hour_powers}
use Rattle.fd_daily.specs.fd_elements.declared.powers.LoadPower.{LoadPower}
use Rattle.fd_daily.specs.fd_queue.Machine.{Act, Machine}
use Rattle.fd_pages.specs.fd_report.Solutions.{IsOfSize}
use Rattle.fd_daily.specs.fd_settle.Compute.{ComputeGives, IsPlaced, computed_of}
use Rattle.fd_daily.proofs.CallerLemmas.fd_settle.{its_certificate}
use Rattle.fd_daily.specs.fd_settle.Computed.{Ending, EndsBySolver, EndsSo, Follows, IsComputedFrom, computed_in, ended}
use Rattle.fd_daily.specs.fd_settle.Contract.{CallsAs, EndsAs, limits_of}
use Rattle.fd_daily.specs.fd_settle.Plant.{Plant, network_at, plant_of}
use Rattle.fd_daily.specs.fd_settle.Rounds.{AtEach, after_round, claims_in, seen, settled}
use Rattle.fd_daily.specs.fd_settle.Settle.{End, Ends, Moves, Outcome, Settled, outcome_of}
use Rattle.fd_daily.specs.fd_settle.Start.{ArePositions, IsSoundAt}
use Rattle.fd_daily.specs.fd_settle.declared.compute.ComputeFault.{ComputeFault}
use Rattle.fd_daily.specs.fd_settle.declared.compute.ComputeFault.TheVariants as compute
use Rattle.fd_daily.specs.fd_settle.declared.fault.SettleFault.{SettleFault}
use Rattle.fd_daily.specs.fd_settle.declared.fault.SettleFault.TheVariants as fault
use Rattle.fd_daily.specs.fd_settle.declared.round.Round.{Round as Made}
use Rattle.fd_pages.specs.fd_outcome.Pages.{solution_in}
use Rattle.fd_pages.specs.fd_outcome.Settles.{Round, SettleEnd}
use Rattle.fd_pages.specs.fd_outcome.Settles as outcome
use Rattle.fd_pages.specs.Hours.{IsPrintable, IsTriedOf, round_in, rounds_in, settle_made, end_with, Kept, hour_settle}
use Rattle.fd_solving.specs.Answered.{IsFailureOf, IsMadeHour, IsOfCommand}
use Rattle.fd_solving.specs.Endings.{IsCounted, IsEnding, IsFailureAt, IsTriedAt, IsWithin, TellsOf, end_by}
use Rattle.fd_solving.specs.Endings.{ending_by_solver, ending_of, tried_at}
use Rattle.fd_solving.specs.declared.faults.Failure.{Failure}
use Rattle.fd_daily.specs.fd_cert.declared.ball.Certified.{Certified}
use Rattle.fd_pages.specs.fd_report.declared.faults.Fault.{Fault}
use Rattle.fd_solving.specs.Printing.{fault_of}
use Rattle.fd_daily.specs.Underway.{plant_at}
use Rattle.fd_solving.specs.Solving.{IsEndBy, IsHour, begun_by, kept_by, rounds_of}
use Rattle.fd_daily.proofs.CallerLemmas.{begun_made}
use Rattle.fd_solving.proofs.Computations.{few_rounds}
use Rattle.fd_solving.proofs.Solutions.{is_of_size, network_size}
use Rattle.fd_solving.proofs.Tried.{IsTriedBy, sound_claim, tried_as, tried_claims}

-- ---- rounds as the code makes them, and as they are printed

same_rounds : (rs : List Made) → rounds_of (computed_in rs) ≡ rounds_in rs
same_rounds [] = refl
same_rounds (r ∷ rs) = ap (λ (xs : List Round). round_in r ∷ xs) (same_rounds rs)

-- ---- a state that is computed is shown by an inverse

abbrev HasOwnInverse : Made → Type 0
HasOwnInverse r = IsByInverse (support_in r.certified.value.support)

module _ (limits : Limits) (p : Plant) where
  abbrev Computed : Machine → List Made → Ending → Machine → Type 0
  Computed m rs ending n = IsComputedFrom (computed_of limits) p m (computed_in rs) ending n

  none_left : (rs : List Made) → computed_in rs ≡ [] → AllByRecursion HasOwnInverse rs
  none_left [] e = tt
  none_left (r ∷ rs) e = absurd (cc e)

  inverses_behind : (o : Outcome) (acts : List Act) (rs : List Made) (ending : Ending) (n : Machine)
      → ((k : Machine) → Computed k rs ending n → AllByRecursion HasOwnInverse rs)
      → Follows o acts (computed_in rs) ending n (λ k. Computed k rs ending n) → AllByRecursion HasOwnInverse rs
  inverses_behind (Ends end k) acts rs ending n next f = none_left rs f.1.0
  inverses_behind (Moves made k) acts rs ending n next f = next k f.1

  all_inverses : (m : Machine) (rs : List Made) (ending : Ending) (n : Machine) → Computed m rs ending n
      → AllByRecursion HasOwnInverse rs
  all_inverses m [] ending n h = tt
  all_inverses m (r ∷ rs) ending n h = (
    is_by_inverse (p.network m.at) (claim_in r.certified.value)
        (its_certificate limits (p.network m.at) (claim_in r.certified.value) h.1.0).certificate,
    inverses_behind (outcome_of p.setup m (p.look m.at (claim_in r.certified.value))) (map seen r.acts.items) rs ending n
        (λ k. all_inverses k rs ending n) h.1.1,
  )

-- ---- each round

module _ (c : CircuitView) (hour : ℕ) where
  all_of_size : (m : Machine) (rs : List Made)
      → AtEach (IsSoundAt c (hour_powers c.elements hour)) (plant_at c hour) m (claims_in rs)
      → All (λ r. IsOfSize (size_of (layout_of c.elements)) (solution_in r)) (rounds_in rs)
  all_of_size m [] sound = All-nil (λ r. IsOfSize (size_of (layout_of c.elements)) (solution_in r))
  all_of_size m (r ∷ rs) sound =
      All-cons (λ r. IsOfSize (size_of (layout_of c.elements)) (solution_in r)) (round_in r) (rounds_in rs)
      (is_of_size c hour m.at (claim_in r.certified.value) sound.0 (map seen r.acts.items))
      (all_of_size (after_round (plant_at c hour) m (claim_in r.certified.value)) rs sound.1)

  all_claims : (m : Machine) (rs : List Made) → AllByRecursion HasOwnInverse rs
      → AtEach (IsSoundAt c (hour_powers c.elements hour)) (plant_at c hour) m (claims_in rs)
      → All (IsRoundOf (size_of (layout_of c.elements))) rs
  all_claims m [] inverses sound = All-nil (IsRoundOf (size_of (layout_of c.elements)))
  all_claims m (r ∷ rs) inverses sound =
      All-cons (IsRoundOf (size_of (layout_of c.elements))) r rs
      (sound_claim c hour m.at (claim_in r.certified.value) inverses.0 sound.0)
      (all_claims (after_round (plant_at c hour) m (claim_in r.certified.value)) rs inverses.1 sound.1)

-- ---- what a fault tells

-- an ending that is told is one of which the settle tells
both_by_solver : (f : ComputeFault) (P : Ending → Type 0) (ending : Ending) → ending_by_solver f ≡ Some ending
    → EndsBySolver f P → P ending
both_by_solver (compute.Solve (solving.NoInverse column stop)) P ending is h = subst P (cc is) h
both_by_solver (compute.Solve (solving.OutOfRange place step)) P ending is h = subst P (cc is) h
both_by_solver (compute.Solve (solving.NotConverged place steps update)) P ending is h = subst P (cc is) h
both_by_solver (compute.Solve solving.NoMemory) P ending is h = absurd (cc is)
both_by_solver (compute.Cert (cert.Loose row mismatch)) P ending is h = subst P (cc is) h
both_by_solver (compute.Cert (cert.NotCertified place sum tried)) P ending is h = subst P (cc is) h
both_by_solver (compute.Cert cert.NoMemory) P ending is h = absurd (cc is)

both : (e : SettleFault ComputeFault) (P : Ending → Type 0) (ending : Ending) → ending_of e ≡ Some ending
    → EndsSo {T = Unit {0}} (Err e) P → P ending
both (fault.Range blame) P ending is h = subst P (cc is) h
both (fault.Solver f) P ending is h = both_by_solver f P ending is h
both (fault.Undecided control low high edge) P ending is h = subst P (cc is) h
both (fault.ControlLimit acts) P ending is h = subst P (cc is) h
both fault.NoMemory P ending is h = absurd (cc is)

-- the number of acts that it names
pub counted : (p : Plant) (e : SettleFault ComputeFault) (end : End) (n : Machine)
    → EndsAs {T = Unit {0}} p (Err e) end n → IsCounted e n
counted p (fault.Range blame) end n h = tt
counted p (fault.Solver f) end n h = tt
counted p (fault.Undecided control low high edge) end n h = tt
counted p (fault.ControlLimit acts) end n h = h.1
counted p fault.NoMemory end n h = tt

-- the place that it names
placed : (limits : Limits) (v : NetworkView) (f : ComputeFault) → ComputeGives limits v (Err f) → IsPlaced v.size f
placed limits v (compute.Solve f) h = h.1
placed limits v (compute.Cert f) h = h.1

pub within : {V : Type 0} (limits : Limits) (c : CircuitView) (powers : List LoadPower) (v : V) (m : Machine)
    (rs : List Made) (e : SettleFault ComputeFault) (w : V) (l : LayoutView)
    → l ≡ layout_of c.elements
    → CallsAs {V = V} {T = Unit {0}} (λ u net answer x. ComputeGives limits net answer) (plant_of c powers) v m rs
    (Err e) w
    → IsWithin (size_of l) e
within limits c powers v m rs (fault.Range blame) w l is h = tt
within limits c powers v m rs (fault.Solver f) w l is h =
    let at = (settled (plant_of c powers) m rs).machine.at in
    subst (λ n. IsPlaced n f) (network_size c powers at ∙ sym (ap size_of is))
    (placed limits (network_at c powers at) f h.last)
within limits c powers v m rs (fault.Undecided control low high edge) w l is h = tt
within limits c powers v m rs (fault.ControlLimit acts) w l is h = tt
within limits c powers v m rs fault.NoMemory w l is h = tt

-- ---- what the clauses of an hour say of its rounds

pub record IsMade (c : CircuitView) (powers : List LoadPower) (m : Machine) (rs : List Made)
    (result : Result (Unit {0}) (SettleFault ComputeFault)) (k : Kept) : Type 0 where
  pub left_is : k.machine ≡ (settled (plant_of c powers) m rs).machine
  pub ends : EndsAs (plant_of c powers) result (settled (plant_of c powers) m rs).end
      (settled (plant_of c powers) m rs).machine
  pub computed : EndsSo result (λ ending.
      IsComputedFrom (computed_of (limits_of c.options)) (plant_of c powers) m (computed_in rs) ending
      (settled (plant_of c powers) m rs).machine)
  pub sound : AtEach (IsSoundAt c powers) (plant_of c powers) m (claims_in rs)
  pub positions : ArePositions c powers k.machine.at
  pub tried : IsTriedBy (limits_of c.options) (plant_of c powers) result (settled (plant_of c powers) m rs).machine

-- ---- the settle of an hour

module _ (c : CircuitView) (hour : ℕ) (l : Kept) (rs : List Made) (k : Kept) (ready : HasPassed c)
    (most : c.options.maxcontroliter ≤ 100) (count : k.settled ≡ l.settled + 1) where
  abbrev first : Machine
  first = (begun_by c hour l).machine

  abbrev last : Machine
  last = (settled (plant_at c hour) first rs).machine

  abbrev MadeHere : Result (Unit {0}) (SettleFault ComputeFault) → Type 0
  MadeHere result = IsMade c (hour_powers c.elements hour) first rs result k

  abbrev EndsHere : Ending → Type 0
  EndsHere ending = IsComputedFrom (computed_of (limits_of c.options)) (plant_at c hour) first (computed_in rs) ending last

  few : (ending : Ending) → EndsHere ending → length rs < 2 ^ 32
  few ending computed =
      let within : length (computed_in rs) + first.made ≤ c.options.maxcontroliter + 1 =
      few_rounds (computed_of (limits_of c.options)) (plant_at c hour) first (computed_in rs) ending last
      (omega (arith, begun_made c hour l.machine)) computed in
      let as_computed : Made → Claim × List Act = λ r. (claim_in r.certified.value, map seen r.acts.items) in
      omega (arith, within, most, length-map rs as_computed)

  printable : (result : Result (Unit {0}) (SettleFault ComputeFault)) (ending : Ending) → MadeHere result
      → EndsHere ending → IsPrintable c hour rs k.machine.at
  printable result ending made computed = record {
    ready = ready;
    numbers = all_of_size c hour first rs made.sound;
    claims = all_claims c hour first rs
        (all_inverses (limits_of c.options) (plant_at c hour) first rs ending last computed) made.sound;
    positions = made.positions;
    few = few ending computed;
  }

  same_kept : (machine : Machine) → k.machine ≡ machine → k ≡ kept_by l machine
  same_kept machine left_is =
      let made : Machine → ℕ → Kept = λ m settled_so. record { machine = m; settled = settled_so } in
      ap (λ x. made x k.settled) left_is ∙ ap (λ x. made machine x) count

  hour_by : (result : Result (Unit {0}) (SettleFault ComputeFault)) (ending : Ending) (end : SettleEnd)
      → MadeHere result → EndsHere ending → IsEndBy c hour ending last end
      → IsHour c hour l (settle_made c hour (begun_by c hour l) rs end k.machine.at) k
  hour_by result ending end made computed is = record {
    rounds = computed_in rs;
    ending = ending;
    machine = last;
    computed = computed;
    end = end;
    end_is = is;
    settle_is =
        ap (λ (x : List Round). hour_settle c hour (begun_by c hour l) x end k.machine.at) (sym (same_rounds rs))
        ∙ ap
        (λ (m : Machine). hour_settle c hour (begun_by c hour l) (rounds_of (computed_in rs)) end m.at) made.left_is;
    kept = same_kept last made.left_is;
  }

  pub ended_well : (done : Unit {0}) → MadeHere (Ok done) → IsMadeHour c hour l rs None k
  ended_well done made = record {
    is = hour_by (Ok done) (ended Settled) outcome.settled made made.computed refl;
    printable = printable (Ok done) (ended Settled) made made.computed;
    tried = tt;
    command = tt;
  }

  module _ (e : SettleFault ComputeFault) (x : Failure) (made : MadeHere (Err e)) (command : IsOfCommand x.fault)
      (tells : x.tried ≡ tried_at e) where
    tried_here : IsTriedAt c hour e last
    tried_here = tried_as c hour e last made.tried

    claimed : IsFailureOf (size_of (layout_of c.elements)) (Some x)
    claimed = subst (IsTriedOf (size_of (layout_of c.elements))) (sym tells) (tried_claims c hour e last tried_here)

    ended_so : (o : Option Ending) → ending_of e ≡ o → IsEnding o (IsFailureAt c hour last x)
        → IsMadeHour c hour l rs (Some x) k
    ended_so None is told = absurd told
    ended_so (Some ending) is told =
        let computed : EndsHere ending = both e EndsHere ending is made.computed in
        record {
          is = hour_by (Err e) ending (end_by (Some x)) made computed told;
          printable = printable (Err e) ending made computed;
          tried = claimed;
          command = command;
        }

    pub ended_by_fault : TellsOf c hour e x → IsMadeHour c hour l rs (Some x) k
    ended_by_fault told =
        ended_so (ending_of e) refl
        (told last (counted (plant_at c hour) e (settled (plant_at c hour) first rs).end last made.ends) tried_here)

-- ---- the fault of a failure

pub fault_end : (f : Fault) (tried : Option Certified) → fault_of (end_with f tried) ≡ Some f
fault_end f None = refl
fault_end f (Some tried) = refl
