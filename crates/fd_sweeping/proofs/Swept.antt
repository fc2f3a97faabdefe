-- Every settle of `ladder` is solved, and its sweep stands behind it.
use Rattle.std.proofs.Common.{◌≡◌, ◌≢◌, ◌∙◌, ℕ, ◌+◌, ◌*◌, ◌<◌, ◌≤◌, ◌^◌, ℤ, List, [], ◌∷◌, ◌++◌, length, map, slice_get}
use Rattle.std.proofs.Common.{Option, Some, None, Result, Ok, Err, refl, sym, ap, subst, arith}
use Rattle.std.specs.Prelude.{All}
use Rattle.std.proofs.lemmas.List.Elements.{All-append, All-cons, All-nil}
use Rattle.fd_solving.specs.dss_model.Names.{bytes}
use Rattle.fd_solving.specs.dss_model.declared.command.Blame.{Blame}
use Rattle.fd_solving.specs.dss_model.declared.command.Command.{Command}
use Rattle.fd_solving.specs.dss_model.declared.command.Place.{Place}
use Rattle.fd_solving.specs.dss_model.declared.command.Verb.{Verb}
use Rattle.fd_solving.specs.dss_model.declared.command.Verb.TheVariants as verb
use Rattle.fd_solving.specs.dss_model.declared.fault.ModelFault.{ModelFault}
use Rattle.fd_solving.specs.dss_circuit.Circuit.{CircuitView, empty_circuit}
use Rattle.fd_solving.specs.dss_circuit.InRange.{IsWithinLimits}
use Rattle.fd_solving.specs.dss_commands.Commands.{applied}
use Rattle.fd_solving.specs.dss_commands.Laws.{LimitsLaw}
use Rattle.fd_solving.specs.dss_layout.Layout.{layout_of}
use Rattle.fd_solving.specs.dss_ready.Ready.{HasPassed}
use Rattle.fd_solving.specs.dss_script.Said.{Said, ScriptEnd, at_its_end, command, ended_by, name, refused_at, said_of}
use Rattle.fd_solving.specs.dss_script.SaidRoom.{SaidRoomLaw, room_of}
use Rattle.fd_solving.specs.dss_script.Sessions.{cost}
use Rattle.fd_sweep.specs.Ladders.{ladder_of}
use Rattle.fd_sweep.specs.Sweep.{sweep_of, swept_unless}
use Rattle.fd_sweep.specs.fd_devices.declared.settings.Positions.{Positions as SweptAt}
use Rattle.fd_sweep.specs.fd_ladder.Radial.{first_offending}
use Rattle.fd_sweep.specs.fd_rungs.declared.swept.Swept.{Swept}
use Rattle.fd_sweep.specs.fd_rungs.declared.swept.Swept.TheVariants.{Settled}
use Rattle.fd_solving.specs.fd_bases.Bases.{bases_of}
use Rattle.fd_solving.specs.fd_bases.declared.bus_base.BusBase.{BusBase}
use Rattle.fd_solving.specs.fd_cert.Agreement.{AgreementLaw}
use Rattle.fd_solving.specs.fd_cert.Widening.{WideningLaw}
use Rattle.fd_solving.specs.fd_daily.Hours.{time_of}
use Rattle.fd_solving.specs.fd_daily.Underway.{no_positions, plant_at}
use Rattle.fd_solving.specs.fd_enclosure.Boxes.{IsInPart}
use Rattle.fd_solving.specs.fd_enclosure.Sound.{Claim, HasInverse, parts_of, loose, number_at, uncertain}
use Rattle.fd_solving.proofs.CallerLemmas.fd_enclosure.{is_by_inverse, sound_inverse}
use Rattle.fd_solving.specs.fd_network.Laws.{NetworkLaw}
use Rattle.fd_solving.specs.fd_outcome.Events as event
use Rattle.fd_solving.specs.fd_outcome.Events.{AllSettles, Event, History, IfSettle, asked, row, settle, swept, waits}
use Rattle.fd_solving.specs.fd_outcome.History.{IsHistory}
use Rattle.fd_solving.specs.fd_outcome.Parts.{events_in}
use Rattle.fd_solving.specs.fd_outcome.Settles.{Round, Settle, SettleEnd, claim_in, failed, round_of, settled}
use Rattle.fd_solving.specs.fd_outcome.Settles.{without_certificate}
use Rattle.fd_solving.specs.fd_outcome.Work.{AfterStep, Step, ends, goes}
use Rattle.fd_solving.specs.fd_outside.Files.{held}
use Rattle.fd_solving.specs.fd_pages.Hours.{Kept, hour_settle}
use Rattle.fd_solving.specs.fd_pattern.Conditions.{IsPoint}
use Rattle.fd_solving.specs.fd_queue.Controls.{Positions}
use Rattle.fd_solving.specs.fd_queue.Machine.{Act, Machine, hour_begun}
use Rattle.fd_solving.specs.fd_queue.declared.entry.Entry.{Entry}
use Rattle.fd_solving.specs.fd_queue.declared.timing.Timing.{Timing}
use Rattle.fd_solving.specs.fd_queue.declared.timing.Timing.TheVariants as timing
use Rattle.fd_solving.specs.fd_report.Bases.{base_fields}
use Rattle.fd_solving.specs.fd_report.declared.faults.Fault.{Fault}
use Rattle.fd_solving.specs.fd_report.declared.ladders.Ladder.{Ladder}
use Rattle.fd_solving.specs.fd_report.declared.ladders.Ladder.TheVariants as ladder
use Rattle.fd_solving.specs.fd_settings.Hours.{HoursLaw, hour_powers}
use Rattle.fd_solving.specs.fd_settings.Modest.{ModestLaw}
use Rattle.fd_solving.specs.fd_settings.Positions.{NextLaw}
use Rattle.fd_solving.specs.fd_settle.Compute.{computed_of, procedure, uncertified}
use Rattle.fd_solving.specs.fd_settle.Computed.{Ending, IsComputedFrom, ended, range, stopped}
use Rattle.fd_solving.specs.fd_daily.fd_inject.declared.fault.SolveFault.TheVariants as fault
use Rattle.fd_solving.specs.fd_devices.Settings.{AreSettings}
use Rattle.fd_solving.specs.fd_settle.Contract.{limits_of}
use Rattle.fd_solving.specs.fd_settle.Plant.{blame_at, network_at, settings_at, timing_of}
use Rattle.fd_solving.specs.fd_settle.Start.{IsSoundAt}
use Rattle.fd_solving.specs.fd_system.Residual.{whole_state}
use Rattle.fd_solving.specs.fd_xfmr.Leakage.{AreTaps}
use Rattle.fd_solving.specs.Boxes.{IsInBox}
use Rattle.fd_solving.specs.Commands.{IsTested, left_of}
use Rattle.fd_solving.specs.Headline.{IsSolution, IsSolved, equations_of}
use Rattle.fd_solving.specs.SolvedLaw.{SolutionLaw}
use Rattle.fd_solving.specs.Scripts.{IsDoneThere, no_name}
use Rattle.fd_solving.specs.Solving.{IsBehind, IsEndBy, IsHour, IsHourStep, IsHoursStep, IsSolutionStep, begun_by}
use Rattle.fd_solving.specs.Solving.{kept_first, rounds_of}
use Rattle.fd_solving.specs.Steps.{StandingView, behind_events, standing, step_with}
use Rattle.fd_solving.specs.Weights.{weight}
use Rattle.fd_solving.proofs.CallerLemmas.{Takes, network_size, same_box, verb_takes}
use Rattle.fd_solving.proofs.CallerLemmas.dss_commands.{none_within}
use Rattle.fd_sweeping.specs.Agreements.{AgreesWith, HaveSweeps, IsTrueSweep}
use Rattle.fd_sweeping.specs.Beside.{greater_mismatches}
use Rattle.fd_sweeping.specs.Pages.{blame, its_sweep, ladder_in, network, script_at, sweep, sweep_behind, sweep_event}
use Rattle.fd_sweeping.specs.Pages.{unless_refused}
use Rattle.fd_solving.specs.fd_system.Meets.{Meets}
use Rattle.fd_sweeping.specs.Sweeping.{IsByOrder, IsByTests, IsSweepingStep, IsSweepingStepOf, IsSweptSolve, as_before}
use Rattle.fd_sweeping.specs.Sweeping.{snapshot, sweeping}
use Rattle.fd_sweeping.specs.SweptLaw.{SweptLaw}
use Rattle.fd_sweeping.proofs.Agreed.{gap_most, in_box, meets_greater, near_greater, near_own, says_so}
use Rattle.fd_sweeping.proofs.Points.{settled_point}
use Rattle.fd_sweeping.proofs.Stepped.{at_rest_within, passed_at_rest}

-- the sweep of a settle of `ladder` stands behind it, and is what is said of it
pub record StandsBehind (x : Settle) : Type 0 where
  pub round : Round
  pub ladder : Ladder
  pub first : slice_get x.rounds 0 ≡ Some round
  pub behind : its_sweep x ≡ swept x.circuit (claim_in round) ladder ∷ []
  pub is_true : IsTrueSweep x.circuit (claim_in round) ladder

-- a state that the sweeps of a circuit settle at is a point of its network
settled_there : (c : CircuitView) (x : List ℤ) (sweeps : ℕ) → sweep c ≡ Ok (Settled x sweeps) → IsPoint (network c) x
settled_there c x sweeps e = by (first_offending c.elements) e
  where
    at : SweptAt
    at = record { taps = (script_at c).taps; closed = (script_at c).closed }

    by : (first : Option ℕ)
        → swept_unless first (sweep_of c at (network c) c.options.maxiterations) ≡ Ok (Settled x sweeps)
        → IsPoint (network c) x
    by None is =
        settled_point (network c) (ladder_of c at) (network c).stamp.loads (network c).nodes
        (10 * c.options.maxiterations) x sweeps (cc is)
    by (Some number) is = absurd (cc is)

pub record Laws : Type 0 where
  pub limits : LimitsLaw
  pub solution : SolutionLaw
  pub network : NetworkLaw
  pub hours : HoursLaw
  pub modest : ModestLaw
  pub next : NextLaw
  pub widening : WideningLaw
  pub agreement : AgreementLaw

-- an hour begins where the hour before left the taps and banks
begun_at : (t : Timing) (now : ℕ) (m : Machine) → (hour_begun t now m).at ≡ m.at
begun_at timing.Static now m = refl
begun_at timing.Clock now m = refl

-- ---- a settle

to_box : (parts : ℕ) (c : CircuitView) (at : Positions) (centre x : List ℤ)
    → IsInPart parts (network_at c (hour_powers c.elements 0) at) centre (whole_state x)
    → IsInBox parts (layout_of c.elements) centre (whole_state x)
unfolding network_at
to_box parts c at centre x h place within free =
    let close = h place within free in
    let same = same_box parts c (hour_powers c.elements 0) at centre place in
    omega (arith, close, same)

module _ (laws : Laws) (c : CircuitView) (ready : HasPassed c) (within : IsWithinLimits c.elements c.options)
    (none : first_offending c.elements ≡ None) where
  -- the certified state of a round at the script's positions, where the network is in range
  sound_at : (m : Claim) → blame_at c (hour_powers c.elements 0) (script_at c) ≡ None → IsSolution c 0 (script_at c) m
      → IsSoundAt c (hour_powers c.elements 0) (script_at c) m
  unfolding blame_at network_at
  sound_at m in_range is =
      let next = laws.next c.solves c.elements [] [] in
      let counts : AreSettings c.elements (settings_at (hour_powers c.elements 0) (script_at c)) =
      record { taps = next.counts.taps; closed = next.counts.closed; powers = (laws.hours c.elements).count 0 } in
      let taps : All AreTaps (script_at c).taps = next.within within.elements_in_range (All-nil AreTaps) in
      let modest = laws.modest c.elements 0 within.elements_in_range in
      let of = laws.network c
      (settings_at (hour_powers c.elements 0) (script_at c)) ready within counts taps modest in_range in
      record {
        positions = record { counts = counts; taps = taps };
        agrees = of.agrees;
        network = of.network;
        sound = is.sound;
      }

  abbrev result : Swept
  result = sweep_of c (record { taps = (script_at c).taps; closed = (script_at c).closed })
      (network c) c.options.maxiterations

  sweep_is : sweep c ≡ Ok result
  sweep_is = ap (λ (o : Option ℕ). swept_unless o result) none

  agreed : (m : Claim) → IsSoundAt c (hour_powers c.elements 0) (script_at c) m → HasInverse (network c).size m.support
      → (x : List ℤ) (sweeps g r : ℕ)
      → sweep c ≡ Ok (Settled x sweeps) → ladder_in c m (Settled x sweeps) ≡ ladder.Agrees sweeps g r
      → AgreesWith c m x g r
  agreed m here inverse x sweeps g r settles told =
      let v = network c in
      let point = settled_there c x sweeps settles in
      let so = says_so v m x (layout_of c.elements) sweeps sweeps g r told in
      let size = network_size c (hour_powers c.elements 0) (script_at c) in
      record {
        meets = subst
            (λ n. Meets (equations_of c 0 (script_at c)) (number_at (greater_mismatches v m x)) n (whole_state x)) size
            (here.agrees.up (number_at (greater_mismatches v m x)) v.size (whole_state x) (omega arith)
            (meets_greater laws.widening laws.agreement v m here.network here.sound inverse x point
            (layout_of c.elements) sweeps sweeps g r so));
        inside = to_box (parts_of m.support) c (script_at c) m.centre x
            (in_box laws.widening laws.agreement v m here.network here.sound inverse x point
            (layout_of c.elements) sweeps sweeps g r so);
        near = record {
          over = omega arith;
          within = λ i lt.
              near_greater laws.widening laws.agreement v m here.network here.sound inverse x point
              (layout_of c.elements) sweeps sweeps g r so i
              (subst (λ n. i < n) here.sound.centre.long lt);
        };
        gap_most = gap_most laws.widening laws.agreement v m here.network here.sound inverse x point
            (layout_of c.elements) sweeps sweeps g r so;
        same = λ least. record {
          over = omega arith;
          within = λ i lt.
              near_own laws.widening laws.agreement v m here.network here.sound inverse x point
              (layout_of c.elements) sweeps sweeps g r so
              (λ l h. least l (subst (λ n. l < n) size h)) i (subst (λ n. i < n) here.sound.centre.long lt);
        };
      }

  true_sweep : (m : Claim) → IsSoundAt c (hour_powers c.elements 0) (script_at c) m → HasInverse (network c).size m.support
      → IsTrueSweep c m (ladder_in c m result)
  true_sweep m here inverse = record {
    result = result;
    sweep = sweep_is;
    comes_to = refl;
    agreed = λ x sweeps g r settles told.
        let same : Settled x sweeps ≡ result = cc (sym settles ∙ sweep_is) in
        agreed m here inverse x sweeps g r settles (ap (ladder_in c m) same ∙ told);
  }

  -- ---- the settle of a Solve

  module _ (n : ℕ) (x : Settle) (k : Kept) (is : IsHour c 0 (kept_first (sweeping c n)) x k) (solved : IsSolved x) where
    abbrev first : Kept
    first = kept_first (sweeping c n)

    -- the machine begins at the positions that the script gives
    begins : (begun_by c 0 first).machine.at ≡ script_at c
    begins = begun_at (timing_of c.options.controlmode) (time_of 0) first.machine

    abbrev made_of : List (Claim × List Act) → SettleEnd → Settle
    made_of rounds end = hour_settle c 0 (begun_by c 0 first) (rounds_of rounds) end is.machine.at

    -- a settle of no round didn't end well
    ended_ill : (ending : Ending) (end : SettleEnd)
        → IsComputedFrom (computed_of (limits_of c.options)) (plant_at c 0) (begun_by c 0 first).machine [] ending is.machine
        → IsEndBy c 0 ending is.machine end → end ≡ settled → ⊥
    ended_ill (ended e) end computed by well = computed
    ended_ill (range b) end computed by well = let no = sym by ∙ well in cc no
    ended_ill (stopped (procedure (fault.NoInverse column stop))) end computed by well = let no = sym by ∙ well in cc no
    ended_ill (stopped (procedure (fault.OutOfRange place step))) end computed by well = let no = sym by ∙ well in cc no
    ended_ill (stopped (procedure (fault.NotConverged place steps update))) end computed by well = let no =
        sym by ∙ well in cc no
    ended_ill (stopped (procedure fault.NoMemory)) end computed by well = by
    ended_ill (stopped (uncertified (loose place mismatch))) end computed by well = let no = sym by ∙ well in cc no
    ended_ill (stopped (uncertified (uncertain place bound))) end computed by well = let no = sym by ∙ well in cc no

    sweep_by : (rounds : List (Claim × List Act)) (end : SettleEnd)
        → IsComputedFrom (computed_of (limits_of c.options)) (plant_at c 0) (begun_by c 0 first).machine rounds is.ending is.machine
        → IsEndBy c 0 is.ending is.machine end → IsSolved (made_of rounds end) → end ≡ settled
        → StandsBehind (made_of rounds end)
    sweep_by [] end computed by good well = absurd (ended_ill is.ending end computed by well)
    sweep_by (r ∷ rest) end computed by good well =
        let in_range : blame c ≡ None =
        subst (λ at. blame_at c (hour_powers c.elements 0) at ≡ None) begins computed.0 in
        let solution : IsSolution c 0 (script_at c) r.0 = subst (λ at. IsSolution c 0 at r.0) begins good.solutions.0 in
        record {
          round = round_of r.0 r.1;
          ladder = ladder_in c r.0 result;
          first = refl;
          behind = ap (λ (e : SettleEnd). sweep_behind (made_of (r ∷ rest) end) e) well
              ∙ (λ i. sweep_event c r.0 (unless_refused (ladder_in c r.0) (in_range i) (sweep_is i)));
          is_true = true_sweep r.0 (sound_at r.0 in_range solution)
              (sound_inverse (network c) r.0 (is_by_inverse (network c) r.0 solution.certificate) solution.sound);
        }

    pub sweep_stands : x.end ≡ settled → StandsBehind x
    sweep_stands well =
        subst StandsBehind (sym is.settle_is)
        (sweep_by is.rounds is.end is.computed is.end_is (subst IsSolved is.settle_is solved)
        (sym (ap (λ (s : Settle). s.end) is.settle_is) ∙ well))

-- ---- events

abbrev IsGood : List Event → Type 0
IsGood events = AllSettles IsSolved events × HaveSweeps events

no_events : IsGood []
no_events = (All-nil (IfSettle IsSolved), tt)

bases_good : (bases : List BusBase) → IsGood (map (λ b. row (base_fields b.bus b.kv)) bases)
bases_good [] = no_events
bases_good (b ∷ bases) =
    let rest = bases_good bases in (
      All-cons (IfSettle IsSolved) (row (base_fields b.bus b.kv))
          (map (λ x. row (base_fields x.bus x.kv)) bases) tt rest.0,
      rest.1,
    )

sweeps_both : (a b : List Event) → HaveSweeps a → HaveSweeps b → HaveSweeps (a ++ b)
sweeps_both [] b h k = k
sweeps_both (settle s ∷ a) b h k = (
  λ well.
      let its = h.0 well in
      record {
        round = its.round;
        ladder = its.ladder;
        more = its.more ++ b;
        first = its.first;
        behind = ap (λ (events : List Event). events ++ b) its.behind;
      },
  sweeps_both a b h.1 k,
)
sweeps_both (swept c m l ∷ a) b h k = (h.0, sweeps_both a b h.1 k)
sweeps_both (asked n ∷ a) b h k = sweeps_both a b h k
sweeps_both (waits c es ∷ a) b h k = sweeps_both a b h k
sweeps_both (row fields ∷ a) b h k = sweeps_both a b h k
sweeps_both (event.line text ∷ a) b h k = sweeps_both a b h k

good_both : (a b : List Event) → IsGood a → IsGood b → IsGood (a ++ b)
good_both a b h k = (All-append (IfSettle IsSolved) a b h.0 k.0, sweeps_both a b h.1 k.1)

-- a settle that ended well, its sweep and what waits
well_good : (x : Settle) (c : CircuitView) (es : List Entry) → IsSolved x → StandsBehind x
    → IsGood (settle x ∷ (its_sweep x ++ waits c es ∷ []))
well_good x c es solved stands =
    let sweep = swept x.circuit (claim_in stands.round) stands.ladder in
    subst (λ (events : List Event). IsGood (settle x ∷ (events ++ waits c es ∷ []))) (sym stands.behind) (
      All-cons (IfSettle IsSolved) (settle x) (sweep ∷ waits c es ∷ []) solved
          (All-cons (IfSettle IsSolved) sweep (waits c es ∷ []) tt
          (All-cons (IfSettle IsSolved) (waits c es) [] tt (All-nil (IfSettle IsSolved)))),
      (
        λ well. record {
          round = stands.round;
          ladder = stands.ladder;
          more = waits c es ∷ [];
          first = stands.first;
          behind = refl;
        },
        (stands.is_true, tt),
      ),
    )

-- a settle that ended with a fault
ill_good : (x : Settle) → IsSolved x → (x.end ≡ settled → ⊥) → its_sweep x ≡ []
    → IsGood (settle x ∷ (its_sweep x ++ []))
ill_good x solved ill none =
    subst (λ (events : List Event). IsGood (settle x ∷ (events ++ []))) (sym none) (
      All-cons (IfSettle IsSolved) (settle x) [] solved (All-nil (IfSettle IsSolved)),
      (λ well. absurd (ill well), tt),
    )

-- ---- between two commands

record IsFit (s : StandingView) : Type 0 where
  circuit : IsWithinLimits s.circuit.elements s.circuit.options
  few : s.settled ≤ 8761 * s.circuit.solves

-- where a run goes on the rest of the script has room for so much
abbrev GoesFit : ℕ → Step StandingView → Type 0
GoesFit rest (goes events t) = IsFit t × (weight t.circuit + rest ≤ 1_048_578)
GoesFit rest (ends events f) = Unit {0}

record IsFitStep (rest : ℕ) (step : Step StandingView) : Type 0 where
  good : IsGood (events_in step)
  left : GoesFit rest step

fit_by : (rest : ℕ) (step other : Step StandingView) → step ≡ other → IsFitStep rest other → IsFitStep rest step
fit_by rest step other is h = subst (IsFitStep rest) (sym is) h

-- ---- a Solve

module _ (laws : Laws) (d : CircuitView) (ready : HasPassed d) (within : IsWithinLimits d.elements d.options)
    (n rest : ℕ)
    (few : n + 8761 ≤ 8761 * d.solves) (room : weight d + rest ≤ 1_048_578)
    (none : first_offending d.elements ≡ None) where
  abbrev at_snapshot : CircuitView
  at_snapshot = snapshot d

  snapshot_within : IsWithinLimits (snapshot d).elements (snapshot d).options
  snapshot_within = record {
    well_formed = within.well_formed;
    few = within.few;
    elements_in_range = within.elements_in_range;
    options_in_range = at_rest_within d.options within.options_in_range;
  }

  -- with its sweep, and the circuit as before
  abbrev with_sweep : Step StandingView → Step StandingView
  with_sweep step = step_with its_sweep (as_before d) step

  -- what the one hour of a snapshot leaves
  hour_fit : (step : Step StandingView)
      → IsHourStep (snapshot d) 0 (kept_first (sweeping (snapshot d) n)) (λ k s. IsHoursStep (snapshot d) [] k s) step
      → AllSettles IsSolved (events_in step) → IsFitStep rest (with_sweep step)
  hour_fit step is solved = by is.made.end refl is.goes_on
    where
      count : is.kept.settled ≡ n + 1
      count = ap (λ (q : Kept). q.settled) is.is.kept

      first_solved : (more : List Event) → AllSettles IsSolved (settle is.made ∷ more) → IsSolved is.made
      first_solved more all = all 0 (settle is.made) (omega arith)

      ill_fit : (f : Fault) → (is.made.end ≡ settled → ⊥) → its_sweep is.made ≡ [] → step ≡ ends (settle is.made ∷ []) f
          → IsFitStep rest (with_sweep step)
      ill_fit f ill none h = fit_by rest (with_sweep step) _ (ap with_sweep h) (record {
        good = ill_good is.made (first_solved [] (subst (AllSettles IsSolved) (ap events_in h) solved)) ill none;
        left = tt;
      })

      by : (end : SettleEnd) → is.made.end ≡ end
          → IsBehind is.made end (λ s. IsHoursStep (snapshot d) [] is.kept s) step → IsFitStep rest (with_sweep step)
      by settled e h =
          let now = standing (snapshot d) is.kept.machine.at is.kept.settled in
          let waiting : List Event = waits (snapshot d) is.kept.machine.queue ∷ [] in
          let goes_so : step ≡ goes (settle is.made ∷ waiting) now =
          h.step_is ∙ ap (behind_events (settle is.made ∷ [])) h.right in
          let own : IsSolved is.made =
          first_solved waiting (subst (AllSettles IsSolved) (ap events_in goes_so) solved) in
          let stands =
          sweep_stands laws (snapshot d)
          (passed_at_rest d ready) snapshot_within none n is.made is.kept is.is own e in
          fit_by rest (with_sweep step) (with_sweep (goes (settle is.made ∷ waiting) now)) (ap with_sweep goes_so)
          (record {
            good = well_good is.made (snapshot d) is.kept.machine.queue own stands;
            left = (record { circuit = within; few = omega (arith, count, few) }, room);
          })
      by (failed f) e h = ill_fit f (λ well. let no = sym e ∙ well in cc no) (ap (sweep_behind is.made) e) h
      by (without_certificate r f) e h =
          ill_fit f (λ well. let no = sym e ∙ well in cc no) (ap (sweep_behind is.made) e) h

  solve_fit : (step : Step StandingView) → IsSweptSolve d n step → IsFitStep rest step
  unfolding IsSolutionStep
  solve_fit step is =
      let solved =
      laws.solution (snapshot d) no_positions n is.solved (passed_at_rest d ready) snapshot_within (All-nil AreTaps)
      (omega (arith, few, room)) is.right in
      fit_by rest step (with_sweep is.solved) is.step_is (hour_fit is.solved is.right solved)

-- ---- a command

module _ (laws : Laws) where
  order_fit : (d : CircuitView) (n rest : ℕ) (step : Step StandingView) → IsWithinLimits d.elements d.options
      → n + 8761 ≤ 8761 * d.solves → weight d + rest ≤ 1_048_578 → HasPassed d → (first : Option ℕ)
      → first_offending d.elements ≡ first
      → IsByOrder d n first step → IsFitStep rest step
  order_fit d n rest step within few room ready None e is = solve_fit laws d ready within n rest few room e step is
  order_fit d n rest step within few room ready (Some k) e is =
      fit_by rest step _ is (record { good = no_events; left = tt })

  tests_fit : (d : CircuitView) (n rest : ℕ) (step : Step StandingView) → IsWithinLimits d.elements d.options
      → n + 8761 ≤ 8761 * d.solves → weight d + rest ≤ 1_048_578 → (answer : Result Unit Blame) → IsTested d answer
      → IsByTests d n answer step → IsFitStep rest step
  tests_fit d n rest step within few room (Err b) right is =
      fit_by rest step _ is (record { good = no_events; left = tt })
  tests_fit d n rest step within few room (Ok done) ready is =
      order_fit d n rest step within few room ready (first_offending d.elements) refl is

  change_fit : (s : StandingView) (rest : ℕ) (d : CircuitView) (events : List Event) (step : Step StandingView)
      → IsFit s
      → IsWithinLimits d.elements d.options → s.circuit.solves ≤ d.solves → weight d + rest ≤ 1_048_578
      → IsGood events → step ≡ goes events (sweeping d s.settled) → IsFitStep rest step
  change_fit s rest d events step h within count room good is =
      fit_by rest step (goes events (sweeping d s.settled)) is (record {
        good = good;
        left = (record { circuit = within; few = omega (arith, h.few, count) }, room);
      })

  left_fit : (place : Place) (v : Verb) (s : StandingView) (rest : ℕ) (d : CircuitView) (step : Step StandingView)
      → IsFit s
      → IsWithinLimits d.elements d.options → Takes v s.circuit d → weight d + rest ≤ 1_048_578
      → IsSweepingStepOf s.settled (left_of place v (Ok d)) step → IsFitStep rest step
  left_fit place (verb.Solve pairs) s rest d step h within takes room is =
      let one_more : s.circuit.solves + 1 ≤ d.solves = takes.count in
      tests_fit d s.settled rest step within (omega (arith, h.few, one_more)) room is.answer is.right is.step_is
  left_fit place verb.Bases s rest d step h within takes room is =
      change_fit s rest d _ step h within (omega (arith, takes.count)) room (bases_good (bases_of d)) is
  left_fit place (verb.New kind text pairs) s rest d step h within takes room is =
      change_fit s rest d [] step h within (omega (arith, takes.count)) room no_events is
  left_fit place (verb.Edit kind text pairs) s rest d step h within takes room is =
      change_fit s rest d [] step h within (omega (arith, takes.count)) room no_events is
  left_fit place (verb.Set pairs) s rest d step h within takes room is =
      change_fit s rest d [] step h within (omega (arith, takes.count)) room no_events is
  left_fit place verb.Clear s rest d step h within takes room is =
      change_fit s rest d [] step h within (omega (arith, takes.count)) room no_events is

  command_fit : (c : Command) (s : StandingView) (rest : ℕ) (step : Step StandingView) → IsFit s
      → weight s.circuit + (cost c.verb + rest) ≤ 1_048_578 → IsSweepingStep c s step → IsFitStep rest step
  command_fit c s rest step h room is = by (applied c s.circuit) refl is
    where
      by : (r : Result CircuitView ModelFault) → applied c s.circuit ≡ r
          → IsSweepingStepOf s.settled (left_of c.place c.verb r) step → IsFitStep rest step
      by (Err f) e is = fit_by rest step _ is (record { good = no_events; left = tt })
      by (Ok d) e is =
          let takes : Takes c.verb s.circuit d = verb_takes c.place c.verb s.circuit d e in
          let kept = laws.limits c s.circuit d e (omega (arith, room)) h.circuit in
          left_fit c.place c.verb s rest d step h kept.within takes (omega (arith, takes.room, room)) is

  -- ---- a history

  module _ (held_as : List ℕ → Option (List ℕ)) where
    abbrev IsFrom : List Said → ScriptEnd → StandingView → History → Type 0
    IsFrom said end s h = IsHistory IsSweepingStep no_name IsDoneThere held_as said end s h

    end_good : (end : ScriptEnd) (s : StandingView) (h : History) → IsFrom [] end s h → IsGood h.events
    end_good at_its_end s h is = subst (λ (x : History). IsGood x.events) (sym is) no_events
    end_good (refused_at place c) s h is = subst (λ (x : History). IsGood x.events) (sym is) no_events

    after_step : (rest : ℕ) (step : Step StandingView) (P : StandingView → History → Type 0) (h : History)
        → IsFitStep rest step → AfterStep step P h
        → ((t : StandingView) (x : History) → IsFit t → weight t.circuit + rest ≤ 1_048_578 → P t x → IsGood x.events)
        → IsGood h.events
    after_step rest (goes events t) P h good is go =
        subst (λ (x : History). IsGood x.events) (sym is.h_is)
        (good_both events is.more.events good.good (go t is.more good.left.0 good.left.1 is.right))
    after_step rest (ends events f) P h good is go =
        subst (λ (x : History). IsGood x.events) (sym is) good.good

    history_good : (said : List Said) (end : ScriptEnd) (s : StandingView) (h : History) → IsFit s
        → weight s.circuit + room_of said ≤ 1_048_578 → IsFrom said end s h → IsGood h.events
    history_good [] end s h good room is = end_good end s h is
    history_good (name n ∷ more) end s h good room is =
        let more_good = history_good more end s is.more good room is.right in
        subst (λ (x : History). IsGood x.events) (sym is.h_is)
        (All-cons (IfSettle IsSolved) (asked n) is.more.events tt more_good.0, more_good.1)
    history_good (command c ∷ more) end s h good room is =
        after_step (room_of more) is.step (λ t x. IsFrom more end t x) h
        (command_fit c s (room_of more) is.step good room is.right) is.goes_on
        (λ t x k left later. history_good more end t x k left later)

pub all_swept : Laws → SaidRoomLaw → SweptLaw
all_swept laws rooms files file h is =
    let p = said_of files file in
    let few = rooms files file in
    history_good laws (λ n. held files (bytes n)) p.said (ended_by p.left) (sweeping empty_circuit 0) h
    (record { circuit = none_within; few = omega arith }) (omega (arith, few)) is
