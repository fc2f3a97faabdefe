-- The blocks of an accepted certificate are certified, whatever states are chosen.
use Rattle.std.proofs.Common.{◌≡◌, ◌∙◌, ℕ, ◌<◌, ◌≤◌, ℤ, pos, ◌-ℤ◌, ◌*ℤ◌, nat_abs, List, [], ◌∷◌, map, All, arith, refl}
use Rattle.std.proofs.Common.{sym, ap, subst}
use Rattle.std.proofs.lemmas.Int.{ints}
use Rattle.std.proofs.lemmas.List.Elements.{All-from_get_or, All-head, All-nil, All-tail}
use Rattle.std.proofs.lemmas.Simd.{map-map}
use Rattle.fd_checking.specs.dss_circuit.Circuit.{CircuitView}
use Rattle.fd_checking.specs.dss_circuit.InRange.{AllInRange, IsWithinLimits}
use Rattle.fd_checking.specs.dss_ready.Ready.{HasPassed}
use Rattle.fd_checking.specs.fd_exact.States.{State, part}
use Rattle.fd_checking.specs.fd_system.Residual.{whole_state}
use Rattle.fd_checking.specs.fd_elements.declared.powers.LoadPower.{LoadPower}
use Rattle.fd_checking.specs.dss_layout.Layout.{LayoutView, layout_of}
use Rattle.fd_checking.specs.fd_enclosure.Encloses.{EnclosureLaw}
use Rattle.fd_checking.specs.fd_enclosure.Sound.{Claim, parts_of}
use Rattle.fd_checking.specs.fd_queue.Controls.{Positions}
use Rattle.fd_checking.specs.fd_queue.Machine.{Machine, hour_begun}
use Rattle.fd_checking.specs.fd_queue.declared.timing.Timing.{Timing}
use Rattle.fd_checking.specs.fd_queue.declared.timing.Timing.TheVariants as timing
use Rattle.fd_checking.specs.fd_sample.Decided.{sample_over}
use Rattle.fd_checking.specs.fd_settings.Hours.{HoursLaw, hour_powers}
use Rattle.fd_checking.specs.fd_settings.Modest.{ModestLaw}
use Rattle.fd_checking.specs.fd_settings.Positions.{NextLaw}
use Rattle.fd_checking.specs.fd_settle.Kept.{IsMachineOf, KeptLaw, SoundAtLaw}
use Rattle.fd_checking.specs.fd_settle.Plant.{controls_in, setup_of, timing_of}
use Rattle.fd_checking.specs.fd_settle.Rounds.{left_by}
use Rattle.fd_checking.specs.fd_settle.Sampling.{Decided, Sampling, Unclear, look_over, sampling_of}
use Rattle.fd_checking.specs.fd_settle.Settle.{Ends, Moves, Outcome, outcome_of}
use Rattle.fd_checking.specs.fd_settle.Start.{ArePositions, IsSoundAt}
use Rattle.fd_checking.specs.fd_daily.Day.{before_first}
use Rattle.fd_checking.specs.fd_daily.Hours.{hours_of, time_of}
use Rattle.fd_checking.specs.fd_certfile.Blocks.{Block, Part}
use Rattle.fd_checking.specs.fd_certfile.Certificates.{Certificate, ends, gives, refuses, trails}
use Rattle.fd_checking.specs.fd_certfile.Rules.{ball_of, moves}
use Rattle.fd_checking.specs.fd_check.Checking.{Checking, Settling, behind_round, done, open_hours, open_solves}
use Rattle.fd_checking.specs.fd_check.Checking.{outcome_in, sampled_by, sampling_in, under_way}
use Rattle.fd_checking.specs.fd_check.Laws.{AreOfRounds, IsOfRound}
use Rattle.fd_checking.specs.fd_daily.Underway.{no_positions, start_from}
use Rattle.fd_checking.specs.fd_solving.Boxes.{IsInBox}
use Rattle.fd_checking.proofs.CallerLemmas.fd_solving.{alike, meets_round, others, sizes_of_others}
use Rattle.fd_app.specs.Meaning.{AreCertified, IsCertified, claim_at}
use Rattle.fd_app.specs.Steady.{Solves, outcome_at}

-- a circuit that can be solved
pub record CanBeSolved (c : CircuitView) : Type 0 where
  pub passed : HasPassed c
  pub within : IsWithinLimits c.elements c.options

-- ---- where a check stands

-- a Solve of any circuit can start from these positions
abbrev CanStart : Positions → Type 0
CanStart at = (c : CircuitView) → AllInRange c.elements → ArePositions c (hour_powers c.elements 0) (start_from c at)

-- before a round: its circuit and those of the Solves behind it can be solved, and the machine is the circuit's
record Stands (s : Settling) : Type 0 where
  circuit : CanBeSolved s.circuit
  more : All CanBeSolved s.more
  machine : IsMachineOf s.circuit (hour_powers s.circuit.elements s.hour) s.machine

abbrev StandsAt : Checking → Type 0
StandsAt done = Unit {0}
StandsAt (under_way s) = Stands s

-- a state is in its own trust box
own_box : (parts : ℕ) (layout : LayoutView) (c : List ℤ) → IsInBox parts layout c (whole_state c)
own_box parts layout c place low kind = let none = no_way (part c place) in omega (arith, none)
  where
    no_way : (z : ℤ) → nat_abs (z -ℤ (pos 1 *ℤ z)) ≡ 0
    no_way z = omega (arith, ints)

-- an hour begins with a machine of the circuit where the hour before left one
begun_machine : (t : Timing) (now : ℕ) (c : CircuitView) (powers others : List LoadPower) (m : Machine)
    → IsMachineOf c powers m
    → ArePositions c others m.at → IsMachineOf c others (hour_begun t now m)
begun_machine timing.Static now c powers others m h at = record {
  positions = at;
  queue = record { queue = record { sorted = tt; one_each = tt; numbers = tt }; controls = tt };
}
begun_machine timing.Clock now c powers others m h at = record { positions = at; queue = h.queue }

module _ (hours_law : HoursLaw) (next_law : NextLaw) where
  -- positions of a circuit are its at any hour
  at_hour : (c : CircuitView) (powers : List LoadPower) (at : Positions) (hour : ℕ) → ArePositions c powers at
      → ArePositions c (hour_powers c.elements hour) at
  at_hour c powers at hour h = record {
    counts = record { taps = h.counts.taps; closed = h.counts.closed; powers = (hours_law c.elements).count hour };
    taps = h.taps;
  }

  can_start : (c : CircuitView) (powers : List LoadPower) (at : Positions) → ArePositions c powers at → CanStart at
  can_start c powers at h next range =
      let is = next_law next.solves next.elements at.taps at.closed in
      record {
        counts = record {
          taps = is.counts.taps;
          closed = is.counts.closed;
          powers = (hours_law next.elements).count 0;
        };
        taps = is.within range h.taps;
      }

  -- the hours that are left of a Solve, and the Solves behind it
  hours_stand : (c : CircuitView) (more : List CircuitView) (hours : List ℕ) (powers : List LoadPower) (m : Machine)
      (n : ℕ)
      → CanBeSolved c → All CanBeSolved more → IsMachineOf c powers m
      → ((left : Positions) (count : ℕ) → CanStart left → StandsAt (open_solves more left count))
      → StandsAt (open_hours c more hours m n (λ left count. open_solves more left count))
  hours_stand c more [] powers m n own others h behind = behind m.at n (can_start c powers m.at h.positions)
  hours_stand c more (hour ∷ hours) powers m n own others h behind = record {
    circuit = own;
    more = others;
    machine = begun_machine (timing_of c.options.controlmode) (time_of hour) c powers (hour_powers c.elements hour) m h
        (at_hour c powers m.at hour h.positions);
  }

  solves_stand : (cs : List CircuitView) (at : Positions) (n : ℕ) → All CanBeSolved cs → CanStart at
      → StandsAt (open_solves cs at n)
  solves_stand [] at n all start = tt
  solves_stand (c ∷ more) at n all start =
      let own = All-head CanBeSolved c more all in
      let rest = All-tail CanBeSolved c more all in
      hours_stand c more (hours_of c.options) (hour_powers c.elements 0) (before_first c (start_from c at)) n own rest
      (record {
        positions = start c own.within.elements_in_range;
        queue = record { queue = record { sorted = tt; one_each = tt; numbers = tt }; controls = tt };
      }) (λ left count next. solves_stand more left count rest next)

  -- behind a round
  behind_stands : (s : Settling) → Stands s → (o : Outcome)
      → IsMachineOf s.circuit (hour_powers s.circuit.elements s.hour) (left_by o) → StandsAt (behind_round s o)
  behind_stands s h (Moves acts m) kept = record { circuit = h.circuit; more = h.more; machine = kept }
  behind_stands s h (Ends end m) kept =
      hours_stand s.circuit s.more s.hours (hour_powers s.circuit.elements s.hour) m s.number h.circuit h.more kept
      (λ left count next. solves_stand s.more left count h.more next)

-- ---- a block

module _ (law : EnclosureLaw) (sound_law : SoundAtLaw) (kept_law : KeptLaw) (modest_law : ModestLaw) (s : Settling)
    (h : Stands s) (b : Block) (of : IsOfRound s b) where
  abbrev c : CircuitView
  c = s.circuit

  abbrev at : Positions
  at = s.machine.at

  abbrev m : Claim
  m = claim_at s b

  sound : IsSoundAt c (hour_powers c.elements s.hour) at m
  sound = sound_law c (hour_powers c.elements s.hour) at m h.circuit.passed h.circuit.within h.machine.positions
      (modest_law c.elements s.hour h.circuit.within.elements_in_range) of.in_range of.sound

  own_solves : Solves s m (whole_state m.centre)
  own_solves = record {
    over = omega arith;
    inside = own_box (parts_of m.support) (layout_of c.elements) m.centre;
    meets = meets_round c s.hour at m sound law;
  }

  -- the samples over the block's ball are those over what it claims
  same_look : look_over (controls_in c) at m ≡ sampling_in c at (ball_of b)
  same_look =
      ap (λ (radii : List ℕ). sampling_of 0 (map (λ p. sample_over p at m.centre radii) (controls_in c)))
      (sym (map-map nat_abs (λ (p : Part). p.radius) b.parts))

  -- at a state that solves the round it comes to what it comes to over the ball
  same_outcome : (x : State) → Solves s m x → outcome_at s x ≡ outcome_in c s.machine (ball_of b)
  same_outcome x solves = by (sampling_in c at (ball_of b)) refl of.acts
    where
      by : (w : Sampling) → sampling_in c at (ball_of b) ≡ w
          → sampled_by (outcome_of (setup_of c) s.machine w) ≡ moves b.acts
          → outcome_at s x ≡ outcome_of (setup_of c) s.machine w
      by (Unclear k u) is acts = absurd (let no : ⊥ = cc acts in no)
      by (Decided ds) is acts =
          ap (outcome_of (setup_of c) s.machine)
          (alike c s.hour h.circuit.passed h.circuit.within.elements_in_range h.circuit.within.well_formed.entries
          law at m sound x ds
          solves (same_look ∙ is))

  certified_block : IsCertified s b
  certified_block = record {
    number = of.number;
    hour = of.hour;
    round = of.round;
    mismatches = All-from_get_or (λ e. e ≤ 1000) m.mismatches 0
        (λ l low. of.sound.mismatches_most l (subst (λ n. l < n) of.sound.mismatches_long low));
    solves = own_solves;
    encloses = others c s.hour at m sound law;
    sizes = sizes_of_others c s.hour at m sound law;
    acts = λ x solves. ap sampled_by (same_outcome x solves) ∙ of.acts;
  }

  machine_left : IsMachineOf c (hour_powers c.elements s.hour) (left_by (outcome_in c s.machine (ball_of b)))
  machine_left =
      subst
      (λ (w : Sampling). IsMachineOf c (hour_powers c.elements s.hour)
      (left_by (outcome_of (setup_of c) s.machine w))) same_look
      (kept_law c (hour_powers c.elements s.hour) s.machine m h.circuit.passed h.circuit.within.elements_in_range
      h.circuit.within.well_formed.entries h.machine)

-- ---- all blocks

module _ (law : EnclosureLaw) (sound_law : SoundAtLaw) (kept_law : KeptLaw) (modest_law : ModestLaw)
    (hours_law : HoursLaw)
    (next_law : NextLaw) where
  all_certified : (certificate : Certificate) (s : Checking) → StandsAt s → AreOfRounds certificate s
      → AreCertified certificate s
  all_certified (gives b more) done h of = absurd of
  all_certified (gives b more) (under_way s) h of =
      let rest = all_certified more (behind_round s (outcome_in s.circuit s.machine (ball_of b)))
      (behind_stands hours_law next_law s h (outcome_in s.circuit s.machine (ball_of b))
      (machine_left law sound_law kept_law modest_law s h b of.0)) of.1 in (
        certified_block law sound_law kept_law modest_law s h b of.0,
        λ x solves. subst (λ (o : Outcome). AreCertified more (behind_round s o))
            (sym (same_outcome law sound_law kept_law modest_law s h b of.0 x solves)) rest,
      )
  all_certified ends s h of = of
  all_certified trails s h of = of
  all_certified (refuses count) s h of = of

  -- no position is one from which any Solve can start
  first_start : CanStart no_positions
  first_start next range =
      let is = next_law next.solves next.elements [] [] in
      record {
        counts = record {
          taps = is.counts.taps;
          closed = is.counts.closed;
          powers = (hours_law next.elements).count 0;
        };
        taps = is.within range (All-nil _);
      }

  -- the blocks of a certificate of these Solves
  pub solves_certified : (certificate : Certificate) (solved : List CircuitView) → All CanBeSolved solved
      → AreOfRounds certificate (open_solves solved no_positions 0)
      → AreCertified certificate (open_solves solved no_positions 0)
  solves_certified certificate solved all of =
      all_certified certificate (open_solves solved no_positions 0)
      (solves_stand hours_law next_law solved no_positions 0 all first_start) of
