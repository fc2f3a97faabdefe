-- The certified state of a round is a solution of the circuit at the positions of its round.
use Rattle.std.proofs.Common.{◌≡◌, ◌∙◌, ◌^◌, ◌+◌, ◌*◌, ◌<◌, ◌≤◌, ℕ, ℤ, nat_abs, List, length, ap, refl, sym, subst}
use Rattle.std.proofs.Common.{arith}
use Rattle.std.proofs.Math.Nat.{mul-le-mul_right, le_of_mul-le-mul_right}
use Rattle.std.proofs.lemmas.Int.{ints, unsigned_abs-mul}
use Rattle.std.proofs.lemmas.List.Elements.{All-get_or}
use Rattle.std.proofs.lemmas.List.FromFn.{get_or-map-range_with_len, length-map-range_with_len}
use Rattle.std.specs.Prelude.{pos, ◌*ℤ◌}
use Rattle.dss_commands.specs.fd_exact.Fractions.{Fraction, Same}
use Rattle.dss_commands.specs.fd_exact.States.{State, away, part}
use Rattle.fd_daily.specs.fd_system.Meets.{Meets}
use Rattle.fd_daily.specs.fd_system.Residual.{whole_state}
use Rattle.fd_daily.specs.fd_system.System.{residual_of}
use Rattle.fd_daily.specs.fd_elements.declared.powers.LoadPower.{LoadPower}
use Rattle.fd_daily.specs.fd_pattern.Conditions.{IsPart}
use Rattle.fd_daily.specs.fd_equations.Enclosure.{addend_count}
use Rattle.fd_daily.specs.fd_equations.Weights.{weight_by}
use Rattle.fd_daily.specs.fd_pattern.declared.layout.PlaceKind.{PlaceKind}
use Rattle.fd_daily.specs.fd_pattern.declared.layout.PlaceKind.TheVariants.{Node, Branch, Magnitude}
use Rattle.fd_pages.specs.dss_layout.Layout.{complex_count, layout_of, size_of}
use Rattle.dss_commands.specs.dss_circuit.Circuit.{CircuitView}
use Rattle.fd_daily.specs.fd_enclosure.Boxes.{IsInPart, half_width, part_width, part_width_by}
use Rattle.fd_daily.specs.fd_enclosure.Encloses.{EnclosureLaw, IsAlternative, IsEnclosure, IsWithinRadii, LinearLaw}
use Rattle.fd_daily.specs.fd_enclosure.Sound.{Claim, claim_of, inverse_in, mismatch_at, mismatches_of, number_at, parts_of, radii_of}
use Rattle.fd_daily.specs.fd_enclosure.Sound.{radius_in}
use Rattle.fd_daily.specs.fd_enclosure.Ties.{BallLaw, IsTied, TieLaw}
use Rattle.fd_daily.proofs.CallerLemmas.fd_enclosure.{claim_is}
use Rattle.fd_daily.specs.fd_queue.Controls.{Positions}
use Rattle.fd_pages.specs.fd_report.Enclosed.{IsSizeBetween}
use Rattle.fd_pages.specs.fd_report.Solutions.{IsOfSize, solution_of}
use Rattle.fd_pages.proofs.CallerLemmas.fd_report.{sizes}
use Rattle.fd_daily.specs.fd_settle.Compute.{IsCertificate, IsComputed}
use Rattle.fd_daily.proofs.CallerLemmas.fd_settle.{its_certificate}
use Rattle.fd_daily.specs.fd_settle.Contract.{limits_of}
use Rattle.fd_daily.specs.fd_settle.Plant.{network_at}
use Rattle.fd_daily.specs.fd_settle.Start.{IsSoundAt}
use Rattle.fd_pages.specs.fd_outcome.Pages.{solution_in}
use Rattle.fd_daily.specs.fd_settings.Hours.{hour_powers}
use Rattle.fd_solving.specs.Boxes.{IsInBox, box_at, box_by, kind_at}
use Rattle.fd_solving.specs.Headline.{EnclosesAll, EnclosesAllSizes, EnclosesOthers, EnclosesSizes, HaveOneBall}
use Rattle.fd_solving.specs.Headline.{HasItsBox, IsLinear, IsOtherState, IsSolution, MeetsRound, equation_count}
use Rattle.fd_solving.specs.Headline.{equations_of, hour_network}
use Rattle.fd_pages.specs.fd_outcome.Settles.{round_of}
use Rattle.fd_daily.specs.fd_queue.Machine.{Act}

pub part_size : (z : ℤ) → IsPart z → nat_abs z ≤ 2 ^ 40
part_size z h = let a = h.0 in let b = h.1 in omega (arith, ints)

-- a tie holds of a number however it is written
tied_other : (t u : ℤ) (d f n e : ℕ) → 0 < d → t *ℤ pos f ≡ u *ℤ pos d → e * d ≤ nat_abs t + (4 * n + 4) * d
    → e * f ≤ nat_abs u + (4 * n + 4) * f
tied_other t u d f n e h c w =
    let p = unsigned_abs-mul t (pos f) in
    let q = unsigned_abs-mul u (pos d) in
    let r = ap nat_abs c in
    let m = mul-le-mul_right f w in
    let g : e * f * d ≤ (nat_abs u + (4 * n + 4) * f) * d = omega arith in
    le_of_mul-le-mul_right g h

tied_same : {f g : Fraction} → Same f g → (n e : ℕ) → IsTied f n e → IsTied g n e
tied_same {f} {g} s n e h = tied_other f.top g.top f.over g.over n e s.left s.cross h

-- ---- the network of a circuit

pub network_size : (c : CircuitView) (powers : List LoadPower) (at : Positions)
    → (network_at c powers at).size ≡ size_of (layout_of c.elements)
unfolding network_at
network_size c powers at = refl

network_complexes : (c : CircuitView) (powers : List LoadPower) (at : Positions)
    → (network_at c powers at).complexes ≡ complex_count (layout_of c.elements)
unfolding network_at
network_complexes c powers at = refl

-- ---- the box by the layout is that of the network

box_by_kind : (parts : ℕ) (kind : PlaceKind) (draw : ℕ) (centre : List ℤ) (place : ℕ)
    → part_width_by parts kind (weight_by kind draw centre place) ≡ box_by parts kind centre place
box_by_kind parts Node draw centre place = refl
box_by_kind parts Branch draw centre place = refl
box_by_kind parts Magnitude draw centre place = refl

module _ (parts : ℕ) (c : CircuitView) (powers : List LoadPower) (at : Positions) (centre : List ℤ) where
  pub same_box : (place : ℕ)
      → part_width parts (network_at c powers at) centre place ≡ box_at parts (layout_of c.elements) centre place
  unfolding network_at
  same_box place =
      box_by_kind parts (kind_at (layout_of c.elements) place) (network_at c powers at).stamp.draw centre place

  in_trust_box : (x : State) → IsInBox parts (layout_of c.elements) centre x
      → IsInPart parts (network_at c powers at) centre x
  unfolding network_at
  in_trust_box x h place within free =
      subst (λ w. nat_abs (away centre x place) ≤ x.over * w) (sym (same_box place)) (h place within free)

-- ---- a round

module _ (c : CircuitView) (hour : ℕ) (at : Positions) (m : Claim)
    (here : IsSoundAt c (hour_powers c.elements hour) at m) where
  -- a state meets numbers in the equations of the circuit where it does in the rows of its network, and the other way
  -- round
  up : (e : ℕ → ℕ) (y : State) → 0 < y.over
      → Meets (residual_of (hour_network c hour at).stamp) e (hour_network c hour at).size y
      → Meets (equations_of c hour at) e (equation_count c hour at) y
  up e y h meets =
      let P : ℕ → Type 0 = λ n. Meets (equations_of c hour at) e n y in
      subst P (network_size c (hour_powers c.elements hour) at)
      (here.agrees.up e (hour_network c hour at).size y h meets)

  down : (e : ℕ → ℕ) (y : State) → 0 < y.over → Meets (equations_of c hour at) e (equation_count c hour at) y
      → Meets (residual_of (hour_network c hour at).stamp) e (hour_network c hour at).size y
  down e y h meets =
      let P : ℕ → Type 0 = λ n. Meets (equations_of c hour at) e n y in
      here.agrees.down e (hour_network c hour at).size y h
      (subst P (sym (network_size c (hour_powers c.elements hour) at)) meets)

  enclosed : EnclosureLaw → IsEnclosure (hour_network c hour at) m
  enclosed law = law (hour_network c hour at) m here.network here.sound

  -- a state of the round's ball that meets its mismatches is one that the certificate speaks of
  alternative : (y : State) → IsOtherState c hour at m y
      → IsAlternative (hour_network c hour at) (parts_of m.support) m.centre m.mismatches y
  alternative y a = record {
    over = a.over;
    inside = in_trust_box (parts_of m.support) c (hour_powers c.elements hour) at m.centre y a.inside;
    meets = down (number_at m.mismatches) y a.over a.meets;
  }

  near : EnclosureLaw → (y : State) → IsOtherState c hour at m y
      → IsWithinRadii (hour_network c hour at) m.centre m.radii y
  near law y a = (enclosed law).encloses y (alternative y a)

  pub meets_round : EnclosureLaw → MeetsRound c hour at m (whole_state m.centre)
  meets_round law = up (number_at m.mismatches) (whole_state m.centre) (omega arith) (enclosed law).meets

  pub others : EnclosureLaw → EnclosesOthers c hour at m
  others law y a =
      record { over = a.over; within = λ i lt. near law y a i (subst (λ n. i < n) here.sound.centre.long lt) }

  -- the sizes of the voltages and currents of a state within the radii
  sizes_within : (y : State) (k : ℕ) → IsWithinRadii (hour_network c hour at) m.centre m.radii y
      → k < complex_count (layout_of c.elements) → IsSizeBetween (solution_of m.centre m.radii m.boxes m.mismatches) y k
  sizes_within y k close h =
      let inside : k < (hour_network c hour at).complexes =
      omega (arith, h, network_complexes c (hour_powers c.elements hour) at) in
      sizes (solution_of m.centre m.radii m.boxes m.mismatches) y k
      (close (2 * k) (omega (arith, inside, here.network.unknowns)))
      (close (2 * k + 1) (omega (arith, inside, here.network.unknowns)))

  pub sizes_of_others : EnclosureLaw → EnclosesSizes c hour at m
  sizes_of_others law y k other h = sizes_within y k (near law y other) h

  -- where the equations are linear, so is each state of any size that meets the mismatches
  near_all : LinearLaw → IsLinear c hour at → (y : State) → 0 < y.over → MeetsRound c hour at m y
      → IsWithinRadii (hour_network c hour at) m.centre m.radii y
  near_all law linear y over meets =
      law (hour_network c hour at) m here.network linear here.sound y over (down (number_at m.mismatches) y over meets)

  all_others : LinearLaw → IsLinear c hour at → EnclosesAll c hour at m
  all_others law linear y over meets = record {
    over = over;
    within = λ i lt. near_all law linear y over meets i (subst (λ n. i < n) here.sound.centre.long lt);
  }

  sizes_of_all_others : LinearLaw → IsLinear c hour at → EnclosesAllSizes c hour at m
  sizes_of_all_others law linear y k over meets h = sizes_within y k (near_all law linear y over meets) h

  pub is_of_size : (acts : List Act) → IsOfSize (size_of (layout_of c.elements)) (solution_in (round_of m acts))
  is_of_size acts =
      subst (λ n. IsOfSize n (solution_in (round_of m acts))) (network_size c (hour_powers c.elements hour) at)
      (record {
        centre = here.sound.centre.long;
        radii = here.sound.radii_long;
        boxes = ap length here.sound.boxes
            ∙ length-map-range_with_len (part_width (parts_of m.support) (hour_network c hour at) m.centre) 0
            (hour_network c hour at).size;
        mismatches = here.sound.mismatches_long;
        parts_small = λ i h.
            part_size (part m.centre i) (All-get_or IsPart m.centre i (pos 0)
            (subst (λ n. i < n) (sym here.sound.centre.long) h) here.sound.centre.parts);
        radii_small = here.sound.radii_most;
      })

  module _ (computed : IsComputed (limits_of c.options) (hour_network c hour at) m) where
    parts : IsCertificate (limits_of c.options) (hour_network c hour at) m
    parts = its_certificate (limits_of c.options) (hour_network c hour at) m computed

    what : m ≡ claim_of (hour_network c hour at) m.centre (inverse_in m.support)
    what = sym (claim_is (hour_network c hour at) m.centre (inverse_in m.support) m parts.certificate)

    own_mismatch : (l : ℕ) → l < (hour_network c hour at).size
        → number_at m.mismatches l ≡ mismatch_at (hour_network c hour at) m.centre l
    unfolding mismatches_of
    own_mismatch l h =
        ap (λ k. number_at k.mismatches l) what
        ∙ get_or-map-range_with_len (mismatch_at (hour_network c hour at) m.centre) 0 (hour_network c hour at).size l
        l 0 h (omega arith)

    own_radius : (i : ℕ) → i < (hour_network c hour at).size
        → number_at m.radii i ≡ radius_in (hour_network c hour at) m.centre (inverse_in m.support)
        (mismatches_of (hour_network c hour at) m.centre) i
    unfolding radii_of
    own_radius i h =
        ap (λ k. number_at k.radii i) what
        ∙ get_or-map-range_with_len (radius_in (hour_network c hour at) m.centre (inverse_in m.support)
        (mismatches_of (hour_network c hour at) m.centre))
        0 (hour_network c hour at).size i i 0 h (omega arith)

    row_tied : TieLaw → (l : ℕ) → l < equation_count c hour at
        → IsTied (equations_of c hour at (whole_state m.centre) l) (addend_count (hour_network c hour at).stamp l)
        (number_at m.mismatches l)
    row_tied tie l h =
        let within : l < (hour_network c hour at).size =
        omega (arith, h, network_size c (hour_powers c.elements hour) at) in
        let tied : IsTied (equations_of c hour at (whole_state m.centre) l)
        (addend_count (hour_network c hour at).stamp l) (mismatch_at (hour_network c hour at) m.centre l) =
        tied_same (here.agrees.same (whole_state m.centre) (omega arith) l)
        (addend_count (hour_network c hour at).stamp l) (mismatch_at (hour_network c hour at) m.centre l)
        (tie (hour_network c hour at) m.centre l here.network here.sound.centre within) in
        subst (λ e.
        IsTied (equations_of c hour at (whole_state m.centre) l) (addend_count (hour_network c hour at).stamp l) e)
        (sym (own_mismatch l within)) tied

    own_box : (i : ℕ) → i < (hour_network c hour at).size
        → number_at m.boxes i ≡ part_width (parts_of m.support) (hour_network c hour at) m.centre i
    own_box i h =
        ap (λ boxes. number_at boxes i) here.sound.boxes
        ∙ get_or-map-range_with_len (part_width (parts_of m.support) (hour_network c hour at) m.centre) 0
        (hour_network c hour at).size i i 0 h (omega arith)

    own_half : (i : ℕ) → i < (hour_network c hour at).size
        → number_at m.boxes i ≡ half_width (hour_network c hour at) m.centre i
    own_half i h = own_box i h ∙ ap (λ k. part_width (parts_of k.support) (hour_network c hour at) m.centre i) what

    its_box : HasItsBox c hour at m
    its_box place h =
        own_box place (omega (arith, h, network_size c (hour_powers c.elements hour) at))
        ∙ same_box (parts_of m.support) c (hour_powers c.elements hour) at m.centre place

    one_ball : BallLaw → HaveOneBall c hour at m
    one_ball ball k h =
        let inside : k < (hour_network c hour at).complexes =
        omega (arith, h, network_complexes c (hour_powers c.elements hour) at) in
        let first : 2 * k < (hour_network c hour at).size = omega (arith, inside, here.network.unknowns) in
        let second : 2 * k + 1 < (hour_network c hour at).size = omega (arith, inside, here.network.unknowns) in
        let same = ball (hour_network c hour at) m.centre (inverse_in m.support) (mismatches_of (hour_network c hour at) m.centre) k
        here.network.nodes inside in (
          own_radius (2 * k) first ∙ same.radius ∙ sym (own_radius (2 * k + 1) second),
          own_half (2 * k) first ∙ same.box ∙ sym (own_half (2 * k + 1) second),
        )

    pub is_solution : EnclosureLaw → LinearLaw → TieLaw → BallLaw → IsSolution c hour at m
    is_solution law linear tie ball = record {
      state = parts.point;
      certificate = parts.certificate;
      sound = here.sound;
      meets = meets_round law;
      encloses = others law;
      sizes = sizes_of_others law;
      encloses_all = all_others linear;
      sizes_of_all = sizes_of_all_others linear;
      tied = row_tied tie;
      boxes = its_box;
      one_ball = one_ball ball;
    }
