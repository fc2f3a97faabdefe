-- What is decided over the ball of a round is what the controls want at each state that solves it.
use Rattle.std.proofs.Common.{◌≡◌, ◌∙◌, ℕ, ◌+◌, ◌<◌, ◌≤◌, ◌^◌, List, [], ◌∷◌, map, length, get_or, Result, Ok, Err, ap}
use Rattle.std.proofs.Common.{refl, sym, subst, arith}
use Rattle.std.specs.Prelude.{All}
use Rattle.std.proofs.lemmas.List.Elements.{All-from_get_or, All-head, All-tail}
use Rattle.dss_commands.specs.dss_model.declared.words.ControlMode.{ControlMode}
use Rattle.dss_commands.specs.dss_model.declared.words.ControlMode.TheVariants as control_mode
use Rattle.fd_pages.specs.dss_layout.Layout.{layout_of, size_of}
use Rattle.fd_daily.specs.dss_ready.Ready.{HasPassed}
use Rattle.dss_commands.specs.dss_circuit.Circuit.{CircuitView}
use Rattle.dss_commands.specs.dss_circuit.InRange.{AllInRange}
use Rattle.dss_commands.specs.dss_circuit.WellFormed.{IsEntry}
use Rattle.dss_commands.specs.fd_exact.States.{State}
use Rattle.fd_daily.specs.fd_settings.Hours.{hour_powers}
use Rattle.fd_daily.specs.fd_enclosure.Encloses.{EnclosureLaw}
use Rattle.fd_daily.specs.fd_enclosure.Sound.{Claim}
use Rattle.fd_daily.specs.fd_queue.Controls.{Positions}
use Rattle.fd_daily.specs.fd_queue.Decisions.{Decision}
use Rattle.fd_daily.specs.fd_queue.Machine.{Machine}
use Rattle.fd_daily.specs.fd_sample.Balls.{IsBall}
use Rattle.fd_daily.specs.fd_sample.Circuits.{probes_of}
use Rattle.fd_daily.specs.fd_sample.Decided.{Undecided, sample_over}
use Rattle.fd_daily.specs.fd_sample.Probes.{IsProbe, decision_at, quantity_at}
use Rattle.fd_daily.specs.fd_sample.declared.probe.Probe.{Probe}
use Rattle.fd_daily.proofs.CallerLemmas.fd_sample.{probes_kept, sample_wanted}
use Rattle.fd_daily.specs.fd_settle.Plant.{controls_in, plant_of, taking_part}
use Rattle.fd_daily.specs.fd_settle.Rounds.{AtEach, after_round}
use Rattle.fd_daily.specs.fd_settle.Sampling.{Sampling, Decided, Unclear, look_at, look_over, sampling_of, with_first}
use Rattle.fd_daily.specs.fd_settle.Start.{IsSoundAt}
use Rattle.fd_solving.specs.Headline.{DecidesAlike, IsOtherState}
use Rattle.fd_solving.proofs.Solutions.{network_size, others}

-- ---- decided samples

-- a decision before samples that are decided
after_first : (d e : Decision) (w : Sampling) (ds : List Decision) (es : List Decision) → d ≡ e
    → ((fs : List Decision) → w ≡ Decided fs → es ≡ fs) → with_first d w ≡ Decided ds → e ∷ es ≡ ds
after_first d e (Decided fs) ds es first rest is =
    let later : es ≡ fs = rest fs refl in
    let whole : d ∷ fs ≡ ds = cc is in
    cc
after_first d e (Unclear k u) ds es first rest is = absurd (cc)

-- samples that are decided say what each control wants, where each sample does
decided_each : (k : ℕ) (ps : List Probe) (f : Probe → Result Decision Undecided) (g : Probe → Decision)
    (ds : List Decision)
    → All (λ p. (d : Decision) → f p ≡ Ok d → g p ≡ d) ps → sampling_of k (map f ps) ≡ Decided ds → map g ps ≡ ds
decided_each k [] f g ds each is = cc
decided_each k (p ∷ ps) f g ds each is =
    cases (λ fs rest.
    decided_each (k + 1) ps f g fs (All-tail (λ q. (d : Decision) → f q ≡ Ok d → g q ≡ d) p ps each) rest)
    (f p) refl is
  where
    W : Probe → Type 0
    W = λ q. (d : Decision) → f q ≡ Ok d → g q ≡ d

    cases : ((fs : List Decision) → sampling_of (k + 1) (map f ps) ≡ Decided fs → map g ps ≡ fs)
        → (r : Result Decision Undecided) → f p ≡ r → sampling_of k (r ∷ map f ps) ≡ Decided ds → g p ∷ map g ps ≡ ds
    cases later (Ok d) e h =
        after_first d (g p) (sampling_of (k + 1) (map f ps)) ds (map g ps) (sym (All-head W p ps each d e)) later h
    cases later (Err u) e h = absurd (cc)

part_taken : (mode : ControlMode) (P : Probe → Type 0) (ps : List Probe) → All P ps → All P (taking_part mode ps)
part_taken control_mode.Off P ps h = λ i x lt. absurd (omega (arith, lt))
part_taken control_mode.Static P ps h = h
part_taken control_mode.Time P ps h = h

-- ---- any state that solves a round

module _ (c : CircuitView) (hour : ℕ) where
  -- a state that solves a round, where the round is sound
  abbrev IsHeld : Positions → Claim → State → Type 0
  IsHeld at m x = IsOtherState c hour at m x × IsSoundAt c (hour_powers c.elements hour) at m

  ball_of : (at : Positions) (m : Claim) → IsSoundAt c (hour_powers c.elements hour) at m → IsBall m.centre m.radii
  ball_of at m here = record {
    long = here.sound.radii_long ∙ sym here.sound.centre.long;
    centre = here.sound.centre.parts;
    radii = All-from_get_or (λ n. n ≤ 2 ^ 40) m.radii 0
        (λ i h. here.sound.radii_most i (subst (λ n. i < n) here.sound.radii_long h));
  }

  module _ (ready : HasPassed c) (range : AllInRange c.elements) (keys : All IsEntry c.elements)
      (law : EnclosureLaw) where
    -- a decided sample over a round's ball is what its control wants at each state that solves the round
    wanted : (at : Positions) (m : Claim) (x : State) → IsHeld at m x
        → All
        (λ p. (d : Decision) → sample_over p at m.centre m.radii ≡ Ok d
        → decision_at p at (quantity_at p at x) ≡ d) (probes_of c.elements)
    wanted at m x h i p lt d is =
        let kept = probes_kept c ready range keys in
        let long : length m.centre ≡ size_of (layout_of c.elements) =
        h.1.sound.centre.long ∙ network_size c (hour_powers c.elements hour) at in
        let q = get_or (probes_of c.elements) i p in
        sample_wanted q at m.centre m.radii x d (subst (λ n. IsProbe n q) (sym long) (kept.places i p lt))
        (kept.devices at h.1.positions.counts.taps h.1.positions.counts.closed i p lt) h.1.positions.taps
        (ball_of at m h.1) (others c hour at m h.1 law x h.0) is

    of_held : (at : Positions) (m : Claim) (x : State) (ds : List Decision) → IsHeld at m x
        → look_over (controls_in c) at m ≡ Decided ds → look_at (controls_in c) at x ≡ Decided ds
    of_held at m x ds h is =
        ap Decided (decided_each 0 (controls_in c) (λ p. sample_over p at m.centre m.radii)
        (λ p. decision_at p at (quantity_at p at x)) ds (part_taken c.options.controlmode (λ p.
        (d : Decision) → sample_over p at m.centre m.radii ≡ Ok d → decision_at p at (quantity_at p at x) ≡ d)
        (probes_of c.elements) (wanted at m x h))
        is)

    pub alike : (at : Positions) (m : Claim) → IsSoundAt c (hour_powers c.elements hour) at m → DecidesAlike c hour at m
    alike at m here x ds other is = of_held at m x ds (other, here) is

    pub each_alike : (m : Machine) (ys : List Claim)
        → AtEach (IsSoundAt c (hour_powers c.elements hour)) (plant_of c (hour_powers c.elements hour)) m ys
        → AtEach (DecidesAlike c hour) (plant_of c (hour_powers c.elements hour)) m ys
    each_alike m [] sound = tt
    each_alike m (y ∷ ys) sound =
        (alike m.at y sound.0, each_alike (after_round (plant_of c (hour_powers c.elements hour)) m y) ys sound.1)
