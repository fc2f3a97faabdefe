-- The settles of a Solve's hours are solved, and what an hour leaves can start the next.
use Rattle.std.proofs.Common.{◌≡◌, ℕ, ◌+◌, ◌-◌, ◌^◌, ◌<◌, ◌≤◌, List, [], ◌∷◌, map, length, Option, None, refl, sym, ap}
use Rattle.std.proofs.Common.{subst, arith}
use Rattle.std.specs.Prelude.{All}
use Rattle.std.specs.List.{AllByRecursion}
use Rattle.std.proofs.lemmas.List.{length-map, length-replicate}
use Rattle.std.proofs.lemmas.List.Elements.{All-cons, All-nil}
use Rattle.dss_commands.specs.dss_circuit.Circuit.{CircuitView}
use Rattle.dss_commands.specs.dss_circuit.InRange.{IsWithinLimits}
use Rattle.dss_commands.specs.Laws.{LimitsLaw}
use Rattle.fd_daily.specs.dss_ready.Ready.{HasPassed}
use Rattle.fd_daily.specs.fd_xfmr.Leakage.{AreTaps}
use Rattle.fd_daily.specs.fd_elements.declared.powers.LoadPower.{LoadPower}
use Rattle.fd_daily.specs.fd_network.Laws.{NetworkLaw}
use Rattle.fd_daily.specs.fd_settings.Hours.{HoursLaw, hour_powers}
use Rattle.fd_daily.specs.fd_settings.Modest.{ModestLaw}
use Rattle.fd_daily.specs.fd_settings.Positions.{NextLaw}
use Rattle.fd_daily.specs.fd_enclosure.Encloses.{CertificateLaw, EnclosureLaw, LinearLaw}
use Rattle.fd_daily.specs.fd_enclosure.Sound.{Claim, inverse_in}
use Rattle.fd_daily.specs.fd_enclosure.Ties.{BallLaw, TieLaw}
use Rattle.fd_daily.specs.fd_queue.Controls.{Positions}
use Rattle.fd_daily.specs.fd_queue.Machine.{Act, Machine}
use Rattle.fd_daily.proofs.CallerLemmas.fd_settle.{hour_can_start, its_certificate, none_early, solve_can_start}
use Rattle.fd_daily.specs.fd_settle.Compute.{IsComputed, computed_of}
use Rattle.fd_daily.specs.fd_settle.Computed.{Ending, Follows, IsComputedFrom}
use Rattle.fd_daily.specs.fd_settle.Contract.{limits_of}
use Rattle.fd_daily.specs.fd_settle.KeptRounds.{AreKept, CanStart, KeptRoundsLaw}
use Rattle.fd_daily.specs.fd_settle.Numbers.{AreActNumbers}
use Rattle.fd_daily.specs.fd_settle.Plant.{Plant, blame_at, network_at, settings_at, setup_of, timing_of}
use Rattle.fd_daily.specs.fd_settle.Rounds.{AtEach, left_by}
use Rattle.fd_daily.specs.fd_settle.Settle.{Ends, Moves, Outcome, outcome_of}
use Rattle.fd_daily.specs.fd_settle.Start.{ArePositions, IsSoundAt}
use Rattle.fd_daily.specs.Day.{before_first, no_openings, resumed}
use Rattle.fd_daily.specs.Hours.{hours_of, time_of}
use Rattle.fd_daily.specs.Underway.{plant_at, start_from}
use Rattle.fd_daily.proofs.CallerLemmas.{all_hours, begun_made}
use Rattle.fd_pages.specs.fd_outcome.Events.{AllSettles, IfSettle, settle, waits}
use Rattle.fd_pages.specs.fd_outcome.Parts.{events_in}
use Rattle.fd_pages.specs.fd_outcome.Settles.{Round, Settle, SettleEnd, claim_in, failed, round_of, settled}
use Rattle.fd_pages.specs.fd_outcome.Settles.{without_certificate}
use Rattle.fd_pages.specs.fd_outcome.Work.{Step, ends, goes}
use Rattle.fd_pages.specs.Hours.{Kept, hour_settle}
use Rattle.fd_solving.specs.Headline.{DecidesAlike, HasModestNumbers, IsSolution, IsSolved, hour_network}
use Rattle.fd_solving.specs.Solving.{IsBehind, IsHour, IsHoursStep, IsSolutionStep, begun_by, kept_first, rounds_of}
use Rattle.fd_solving.specs.Steps.{StandingView, behind_events, standing}
use Rattle.fd_solving.proofs.Computations.{few_rounds}
use Rattle.fd_solving.proofs.Points.{solution_point}
use Rattle.fd_solving.proofs.Solutions.{is_solution}
use Rattle.fd_solving.proofs.Steadiness.{each_alike}

-- the laws of the crates below that this rests on
pub record Laws : Type 0 where
  pub limits : LimitsLaw
  pub network : NetworkLaw
  pub certificate : CertificateLaw
  pub enclosure : EnclosureLaw
  pub linear : LinearLaw
  pub tie : TieLaw
  pub ball : BallLaw
  pub hours : HoursLaw
  pub modest : ModestLaw
  pub next : NextLaw
  pub kept : KeptRoundsLaw

-- ---- rounds

abbrev claims_in : List (Claim × List Act) → List Claim
claims_in rounds = map (λ r. r.0) rounds

claims_same : (rounds : List (Claim × List Act)) → map claim_in (rounds_of rounds) ≡ map (λ r. r.0) rounds
claims_same [] = refl
claims_same (r ∷ rounds) = ap (λ (cs : List Claim). r.0 ∷ cs) (claims_same rounds)

abbrev HasNumbers : Act → Type 0
HasNumbers a = AreActNumbers a.time a.control a.steps

numbers_same : (rounds : List (Claim × List Act)) → AllByRecursion (λ r. AllByRecursion HasNumbers r.1) rounds
    → AllByRecursion (λ (r : Round). AllByRecursion HasNumbers r.acts) (rounds_of rounds)
numbers_same [] h = tt
numbers_same (r ∷ rounds) h = (h.0, numbers_same rounds h.1)

-- ---- an hour of a circuit

module _ (laws : Laws) (c : CircuitView) (ready : HasPassed c) (circuit : IsWithinLimits c.elements c.options)
    (hour : ℕ) where
  abbrev powers : List LoadPower
  powers = hour_powers c.elements hour

  abbrev plant : Plant
  plant = plant_at c hour

  abbrev Computed : Machine → List (Claim × List Act) → Ending → Machine → Type 0
  Computed m rounds ending n = IsComputedFrom (computed_of (limits_of c.options)) plant m rounds ending n

  -- a state that is computed at positions of the circuit is sound
  sound_at : (at : Positions) (m : Claim) → ArePositions c powers at → blame_at c powers at ≡ None
      → IsComputed (limits_of c.options) (hour_network c hour at) m → IsSoundAt c powers at m
  unfolding blame_at network_at
  sound_at at m positions none computed =
      let modest = laws.modest c.elements hour circuit.elements_in_range in
      let of = laws.network c (settings_at powers at) ready circuit positions.counts positions.taps modest none in
      let v = hour_network c hour at in
      let parts = its_certificate (limits_of c.options) v m computed in
      let there = solution_point v (limits_of c.options) m.centre (inverse_in m.support) parts.point in
      record {
        positions = positions;
        agrees = of.agrees;
        network = of.network;
        sound = laws.certificate v m.centre (inverse_in m.support) m of.network there.point there.square.inverse
            parts.certificate;
      }

  -- what holds of each round, by what holds of it before and how it is computed
  module _ (P Q : Positions → Claim → Type 0)
      (one : (at : Positions) (m : Claim) → P at m → blame_at c powers at ≡ None
      → IsComputed (limits_of c.options) (hour_network c hour at) m → Q at m) where
    behind_round : (o : Outcome) (acts : List Act) (rest : List (Claim × List Act)) (ending : Ending) (n : Machine)
        → Follows o acts rest ending n (λ k. Computed k rest ending n) → AtEach P plant (left_by o) (claims_in rest)
        → ((k : Machine) → Computed k rest ending n → AtEach P plant k (claims_in rest)
        → AtEach Q plant k (claims_in rest))
        → AtEach Q plant (left_by o) (claims_in rest)
    behind_round (Moves made k) acts rest ending n f h go = go k f.1 h
    behind_round (Ends end k) acts rest ending n f h go =
        subst (λ (rs : List (Claim × List Act)). AtEach Q plant k (claims_in rs)) (sym f.1.0) tt

    each_round : (m : Machine) (rounds : List (Claim × List Act)) (ending : Ending) (n : Machine)
        → Computed m rounds ending n → AtEach P plant m (claims_in rounds) → AtEach Q plant m (claims_in rounds)
    each_round m [] ending n f h = tt
    each_round m (r ∷ rest) ending n f h = (
      one m.at r.0 h.0 f.0 f.1.0,
      behind_round (outcome_of (setup_of c) m (plant.look m.at r.0)) r.1 rest ending n f.1.1 h.1
          (λ k later before. each_round k rest ending n later before),
    )

  -- ---- its settle

  module _ (l : Kept) (start : CanStart c powers (begun_by c hour l).machine) (number : l.settled + 1 < 2 ^ 32)
      (within : hour ≤ 8760) (x : Settle) (k : Kept) (is : IsHour c hour l x k) where
    abbrev first : Machine
    first = (begun_by c hour l).machine

    abbrev claims : List Claim
    claims = claims_in is.rounds

    kept_here : AreKept c powers first is.rounds is.machine
    kept_here =
        laws.kept c powers first (computed_of (limits_of c.options)) is.rounds is.ending is.machine ready circuit
        start is.computed

    sound : AtEach (IsSoundAt c powers) plant first claims
    sound =
        each_round (λ at m. ArePositions c powers at) (IsSoundAt c powers)
        (λ at m h none computed. sound_at at m h none computed)
        first is.rounds is.ending is.machine is.computed kept_here.positions

    solutions : AtEach (IsSolution c hour) plant first claims
    solutions =
        each_round (IsSoundAt c powers) (IsSolution c hour)
        (λ at m h none computed. is_solution c hour at m h computed laws.enclosure laws.linear laws.tie laws.ball)
        first is.rounds is.ending
        is.machine is.computed sound

    few : length (rounds_of is.rounds) < 2 ^ 32
    few =
        let most : length is.rounds + first.made ≤ c.options.maxcontroliter + 1 =
        few_rounds (computed_of (limits_of c.options)) plant first is.rounds is.ending is.machine
        (omega (arith, begun_made c hour l.machine)) is.computed in
        let limit = circuit.options_in_range.maxcontroliter in
        omega (arith, most, limit, length-map is.rounds (λ r. round_of r.0 r.1))

    abbrev made : Settle
    made = hour_settle c hour (begun_by c hour l) (rounds_of is.rounds) is.end is.machine.at

    modest : HasModestNumbers made
    modest = record {
      number = number;
      hour = omega
          (arith, within);
      few = few;
      acts = numbers_same is.rounds kept_here.acts;
    }

    made_solved : IsSolved made
    made_solved = record {
      solutions = subst (λ (ys : List Claim). AtEach (IsSolution c hour) plant first ys)
          (sym (claims_same is.rounds)) solutions;
      alike = subst (λ (ys : List Claim). AtEach (DecidesAlike c hour) plant first ys) (sym (claims_same is.rounds))
          (each_alike c hour ready circuit.elements_in_range circuit.well_formed.entries laws.enclosure first claims
          sound);
      numbers = modest;
    }

    pub settle_solved : IsSolved x
    settle_solved = subst IsSolved (sym is.settle_is) made_solved

    pub leaves : CanStart c powers k.machine
    leaves = subst (λ (q : Kept). CanStart c powers q.machine) (sym is.kept) kept_here.left

-- ---- all hours

-- with what one hour can start, another can
another : HoursLaw → (c : CircuitView) (others : List LoadPower) (m : Machine) (hour : ℕ)
    → hour ≤ 8760 → CanStart c others m → CanStart c (hour_powers c.elements hour) (resumed c hour m)
another law c others m hour within h =
    hour_can_start (timing_of c.options.controlmode) c others (hour_powers c.elements hour) m (time_of hour) h (record {
      counts = record {
        taps = h.positions.counts.taps;
        closed = h.positions.counts.closed;
        powers = (law c.elements).count hour;
      };
      taps = h.positions.taps;
    }) (omega (arith, within))

-- what a Solve leaves where the run goes on
abbrev pub LeavesTaps : CircuitView → ℕ → Step StandingView → Type 0
LeavesTaps c most (goes events t) = (t.circuit ≡ c) × (All AreTaps t.at.taps × (t.settled ≤ most))
LeavesTaps c most (ends events f) = Unit {0}

-- a step whose settles are solved, and what it leaves
pub record IsSolvedStep (c : CircuitView) (most : ℕ) (step : Step StandingView) : Type 0 where
  pub solved : AllSettles IsSolved (events_in step)
  pub left : LeavesTaps c most step

settle_before : (c : CircuitView) (most : ℕ) (x : Settle) (more : Step StandingView) → IsSolved x
    → IsSolvedStep c most more
    → IsSolvedStep c most (behind_events (settle x ∷ []) more)
settle_before c most x (goes events t) good h =
    record { solved = All-cons (IfSettle IsSolved) (settle x) events good h.solved; left = h.left }
settle_before c most x (ends events f) good h =
    record { solved = All-cons (IfSettle IsSolved) (settle x) events good h.solved; left = tt }

settle_last : (c : CircuitView) (most : ℕ) (x : Settle) (step : Step StandingView) → IsSolved x
    → (events_in step ≡ settle x ∷ []) → LeavesTaps c most step → IsSolvedStep c most step
settle_last c most x step good is left = record {
  solved = subst (AllSettles IsSolved) (sym is)
      (All-cons (IfSettle IsSolved) (settle x) [] good (All-nil (IfSettle IsSolved)));
  left = left;
}

behind_settle : (c : CircuitView) (most : ℕ) (x : Settle) (end : SettleEnd) (rest : Step StandingView → Type 0)
    (step : Step StandingView) → IsSolved x → IsBehind x end rest step
    → ((more : Step StandingView) → rest more → IsSolvedStep c most more) → IsSolvedStep c most step
behind_settle c most x settled rest step good is go =
    subst (IsSolvedStep c most) (sym is.step_is) (settle_before c most x is.more good (go is.more is.right))
behind_settle c most x (failed f) rest step good is go =
    settle_last c most x step good (ap events_in is) (subst (LeavesTaps c most) (sym is) tt)
behind_settle c most x (without_certificate r f) rest step good is go =
    settle_last c most x step good (ap events_in is) (subst (LeavesTaps c most) (sym is) tt)

module _ (laws : Laws) (c : CircuitView) (ready : HasPassed c) (circuit : IsWithinLimits c.elements c.options) where
  hours_solved : (others : List LoadPower) (hours : List ℕ) (l : Kept) (step : Step StandingView)
      → AllByRecursion (λ hour. hour ≤ 8760) hours → l.settled + length hours < 2 ^ 32
      → CanStart c others l.machine → IsHoursStep c hours l step
      → IsSolvedStep c (l.settled + length hours) step
  hours_solved others [] l step within room h is =
      subst (IsSolvedStep c (l.settled + 0)) (sym is)
      (record {
        solved = All-cons (IfSettle IsSolved) (waits c l.machine.queue) [] tt
            (All-nil (IfSettle IsSolved));
        left = (refl, (h.positions.taps, omega arith));
      })
  hours_solved others (hour ∷ hours) l step within room h is =
      let start = another laws.hours c others l.machine hour within.0 h in
      let good = settle_solved laws c ready circuit hour l start (omega (arith, room)) within.0 is.made is.kept is.is in
      let left = leaves laws c ready circuit hour l start (omega (arith, room)) within.0 is.made is.kept is.is in
      let count : is.kept.settled ≡ l.settled + 1 = ap (λ (q : Kept). q.settled) is.is.kept in
      let same : is.kept.settled + length hours ≡ l.settled + length (hour ∷ hours) = omega (arith, count) in
      behind_settle c (l.settled + length (hour ∷ hours)) is.made is.made.end
      (λ s. IsHoursStep c hours is.kept s) step good
      is.goes_on
      (λ more right.
      subst (λ n. IsSolvedStep c n more) same
      (hours_solved (hour_powers c.elements hour) hours is.kept more within.1 (omega (arith, room, same)) left
      right))

  first_hour : (before : Positions) → All AreTaps before.taps
      → CanStart c (hour_powers c.elements 0) (before_first c (start_from c before))
  first_hour before taps =
      let next = laws.next c.solves c.elements before.taps before.closed in
      solve_can_start c (hour_powers c.elements 0) (start_from c before) 0 (no_openings c) (record {
        counts = record {
          taps = next.counts.taps;
          closed = next.counts.closed;
          powers = (laws.hours c.elements).count 0;
        };
        taps = next.within circuit.elements_in_range taps;
      }) (omega arith) (length-replicate _ None) (none_early _)

  -- all hours of a Solve
  pub solution_solved : (before : Positions) (n : ℕ) (step : Step StandingView) → All AreTaps before.taps
      → n + 8761 < 2 ^ 32 → IsSolutionStep (standing c before n) step → IsSolvedStep c (n + 8761) step
  unfolding IsSolutionStep
  solution_solved before n step taps room is =
      let hours = all_hours c.options circuit.options_in_range in
      let few = hours.few in
      let done =
      hours_solved (hour_powers c.elements 0) (hours_of c.options) (kept_first (standing c before n)) step hours.each
      (omega (arith, room, few)) (first_hour before taps) is in
      record {
        solved = done.solved;
        left = most_left (n + length (hours_of c.options)) (n + 8761) step
            (omega (arith, few)) done.left;
      }
    where
      most_left : (few most : ℕ) (step : Step StandingView) → few ≤ most → LeavesTaps c few step
          → LeavesTaps c most step
      most_left few most (goes events t) less h = (h.0, (h.1.0, omega (arith, less, h.1.1)))
      most_left few most (ends events f) less h = tt
