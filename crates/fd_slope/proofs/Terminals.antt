-- The rows of a part load at its terminal.
use Rattle.std.proofs.Common.{◌≡◌, ◌∙◌, ℕ, ◌+◌, ◌*◌, ◌<◌, ◌≤◌, ◌^◌, ℤ, pos, ◌+ℤ◌, ◌-ℤ◌, ◌*ℤ◌, neg_ℤ, nat_abs, Bool, true, false, cond, List, Option, Some, None, arith, sym, refl, subst}
use Rattle.std.specs.Int.RustNames.{unsigned_abs}
use Rattle.std.proofs.Math.Nat.{mul-le-mul_left}
use Rattle.std.proofs.lemmas.Int.{ints}
use Rattle.fd_load.specs.fd_exact.Fractions.{Fraction}
use Rattle.fd_load.specs.fd_exact.Integers.{abs_sub, as_val, vals, val-same}
use Rattle.fd_load.specs.fd_exact.States.{State}
use Rattle.fd_load.specs.fd_arith.declared.terms.NodeAt.{NodeAt}
use Rattle.fd_load.specs.fd_arith.declared.terms.NodeAt.TheVariants.{Ground, Node}
use Rattle.fd_load.specs.fd_arith.declared.terms.LoadModel.{LoadModel}
use Rattle.fd_load.specs.fd_arith.declared.terms.LoadModel.TheVariants.{ConstantPower, ConstantImpedance, ConstantCurrent}
use Rattle.fd_load.specs.fd_arith.LoadModels.{by_model, has_magnitude, is_linear}
use Rattle.fd_load.specs.fd_system.declared.loads.LoadPhase.{LoadPhase}
use Rattle.fd_load.specs.fd_system.declared.loads.LoadAt.{LoadAt}
use Rattle.fd_load.specs.fd_system.Loads.{constant_current, constant_impedance, constant_power, im_of, magnitude_of, magnitude_row, re_of}
use Rattle.fd_load.specs.fd_system.Residual.{whole_state}
use Rattle.fd_load.specs.Current.{IsLoadPhase, clamped_magnitude, clamped_square}
use Rattle.fd_load.specs.ExactSlopes.{AreNear, ExactSlopes, exact_constant_current, exact_constant_power, exact_row, level}
use Rattle.fd_load.specs.Slopes.{constant_current_slopes, constant_power_slopes, magnitude_is_inside, no_slopes, square_is_inside}
use Rattle.fd_load.specs.declared.slopes.SlopeRow.{SlopeRow}
use Rattle.fd_load.specs.declared.slopes.Slopes.{Slopes}
use Rattle.fd_load.proofs.CallerLemmas.{in_phase_is, quadrature_is, slope_is_near}
use Rattle.fd_slope.specs.Changes.{ChangeLaw, Follows, IsInBox, centre_im, centre_magnitude, centre_re, im_away, im_width, magnitude_away, magnitude_width, radii_in, re_away, re_width, slopes_at}
use Rattle.fd_slope.specs.Radii.{current_radii, no_radii, power_radii}
use Rattle.fd_slope.specs.declared.radii.Radii.{Radii}
use Rattle.fd_slope.specs.declared.radii.RadiusRow.{RadiusRow}
use Rattle.fd_slope.proofs.CurrentRows.{IsRoundedMagnitude}
use Rattle.fd_slope.proofs.MagnitudeRows.{magnitude_follows}
use Rattle.fd_slope.proofs.Magnitudes.{current_row}
use Rattle.fd_slope.proofs.Phases.{Row, imaginary_draw, near_more, nominal_positive, power_row, real_draw}
use Rattle.fd_slope.proofs.PowerCases.{IsRounded}

-- ---- one load phase, by the model

-- how p, q and m become x, y and z over d
pub record Moves (w : LoadPhase) (p q m x y z : ℤ) (rp rq rm ha hb he d : ℕ) : Type 0 where
  pub phase : IsLoadPhase w
  pub over : 0 < d
  pub re : unsigned_abs (x -ℤ pos d *ℤ p) ≤ d * rp
  pub im : unsigned_abs (y -ℤ pos d *ℤ q) ≤ d * rq
  pub magnitude : unsigned_abs (z -ℤ pos d *ℤ m) ≤ d * rm
  pub re_size : unsigned_abs (x -ℤ pos d *ℤ p) ≤ ha
  pub im_size : unsigned_abs (y -ℤ pos d *ℤ q) ≤ hb
  pub magnitude_size : unsigned_abs (z -ℤ pos d *ℤ m) ≤ he

abbrev drawn_by : LoadModel → LoadPhase → ℤ → ℤ → ℤ → ℤ → ℤ → ℕ → Fraction
drawn_by model w a b p q m d =
    by_model model (constant_power a b (nat_abs w.vlo * nat_abs w.vlo) (nat_abs w.vhi * nat_abs w.vhi) p q d)
    (constant_impedance a b (nat_abs w.vn) p q d)
    (constant_current a b (nat_abs w.vn) (nat_abs w.vlo) (nat_abs w.vhi) p q m d)

abbrev exact_by : LoadModel → LoadPhase → ℤ → ℤ → ℤ → ExactSlopes
exact_by model w p q m =
    by_model model (exact_constant_power w p q)
    (record { real = exact_row level level level; imaginary = exact_row level level level; magnitude = exact_row level level level })
    (exact_constant_current w p q m)

abbrev slopes_by : LoadModel → LoadPhase → ℤ → ℤ → ℤ → Slopes
slopes_by model w p q m = by_model model (constant_power_slopes w p q) no_slopes (constant_current_slopes w p q m)

abbrev radii_by : LoadModel → LoadPhase → ℤ → ℤ → ℤ → ℕ → ℕ → ℕ → Radii
radii_by model w p q m rp rq rm = by_model model (power_radii w p q rp rq) no_radii (current_radii w p q m rp rq rm)

level_slope : (t : Bool) (s : ℤ) → t ≡ false → cond t s (pos 0) ≡ pos 0
level_slope true s e = absurd cc
level_slope false s e = refl

real_row : (model : LoadModel) (w : LoadPhase) (p q m x y z : ℤ) (rp rq rm ha hb he d : ℕ) → is_linear model ≡ false
    → AreNear (by_model model 2 1 1) (exact_by model w p q m) (slopes_by model w p q m) → Moves w p q m x y z rp rq rm ha hb he d
    → Row (drawn_by model w (pos (10 ^ 9) *ℤ w.p) (pos (10 ^ 9) *ℤ w.q) x y z d) (drawn_by model w (pos (10 ^ 9) *ℤ w.p) (pos (10 ^ 9) *ℤ w.q) p q m 1)
    (slopes_by model w p q m).real (radii_by model w p q m rp rq rm).real (x -ℤ pos d *ℤ p) (y -ℤ pos d *ℤ q) (z -ℤ pos d *ℤ m) ha hb he d
real_row ConstantPower w p q m x y z rp rq rm ha hb he d e near moves =
    let top = sym (in_phase_is w p q) in
    power_row w (pos (10 ^ 9) *ℤ w.p) (pos (10 ^ 9) *ℤ w.q) p q x y (z -ℤ pos d *ℤ m) _ _ rp rq ha hb he d moves.phase
    moves.over (real_draw w) moves.re moves.im moves.re_size moves.im_size
    (subst (λ n. IsRounded (square_is_inside w p q) (pos (10 ^ 9) *ℤ w.p) p n (clamped_square w p q)
    (constant_power_slopes w p q).real.p) top near.real.p)
    (subst (λ n. IsRounded (square_is_inside w p q) (pos (10 ^ 9) *ℤ w.q) q n (clamped_square w p q)
    (constant_power_slopes w p q).real.q)
    top near.real.q)
real_row ConstantImpedance w p q m x y z rp rq rm ha hb he d e near moves = absurd cc
real_row ConstantCurrent w p q m x y z rp rq rm ha hb he d e near moves =
    current_row w (pos (10 ^ 9) *ℤ w.p) (pos (10 ^ 9) *ℤ w.q) p q m x y z _ _ _ rm ha hb he d moves.phase
    (real_draw w) moves.magnitude moves.re_size moves.im_size moves.magnitude_size near.real.p near.real.q
    (subst (λ n. IsRoundedMagnitude (magnitude_is_inside w m) n (nat_abs w.vn) (clamped_magnitude w m)
    (constant_current_slopes w p q m).real.m) (sym (in_phase_is w p q)) near.real.m)
    (level_slope (magnitude_is_inside w m) _)

imaginary_row : (model : LoadModel) (w : LoadPhase) (p q m x y z : ℤ) (rp rq rm ha hb he d : ℕ)
    → is_linear model ≡ false → AreNear (by_model model 2 1 1) (exact_by model w p q m) (slopes_by model w p q m)
    → Moves w p q m x y z rp rq rm ha hb he d
    → Row (drawn_by model w (neg_ℤ (pos (10 ^ 9) *ℤ w.q)) (pos (10 ^ 9) *ℤ w.p) x y z d)
    (drawn_by model w (neg_ℤ (pos (10 ^ 9) *ℤ w.q)) (pos (10 ^ 9) *ℤ w.p) p q m 1) (slopes_by model w p q m).imaginary
    (radii_by model w p q m rp rq rm).imaginary (x -ℤ pos d *ℤ p) (y -ℤ pos d *ℤ q) (z -ℤ pos d *ℤ m) ha hb he d
imaginary_row ConstantPower w p q m x y z rp rq rm ha hb he d e near moves =
    let top = sym (quadrature_is w p q) in
    power_row w (neg_ℤ (pos (10 ^ 9) *ℤ w.q)) (pos (10 ^ 9) *ℤ w.p) p q x y (z -ℤ pos d *ℤ m) _ _ rp rq ha hb he d
    moves.phase moves.over (imaginary_draw w) moves.re moves.im moves.re_size moves.im_size
    (subst (λ n. IsRounded (square_is_inside w p q) (neg_ℤ (pos (10 ^ 9) *ℤ w.q)) p n (clamped_square w p q)
    (constant_power_slopes w p q).imaginary.p) top near.imaginary.p)
    (subst (λ n. IsRounded (square_is_inside w p q) (pos (10 ^ 9) *ℤ w.p) q n (clamped_square w p q)
    (constant_power_slopes w p q).imaginary.q)
    top near.imaginary.q)
imaginary_row ConstantImpedance w p q m x y z rp rq rm ha hb he d e near moves = absurd cc
imaginary_row ConstantCurrent w p q m x y z rp rq rm ha hb he d e near moves =
    current_row w (neg_ℤ (pos (10 ^ 9) *ℤ w.q)) (pos (10 ^ 9) *ℤ w.p) p q m x y z _ _ _ rm ha hb he d moves.phase
    (imaginary_draw w) moves.magnitude moves.re_size moves.im_size moves.magnitude_size near.imaginary.p
    near.imaginary.q (subst (λ n.
    IsRoundedMagnitude (magnitude_is_inside w m) n (nat_abs w.vn) (clamped_magnitude w m)
    (constant_current_slopes w p q m).imaginary.m) (sym (quadrature_is w p q)) near.imaginary.m)
    (level_slope (magnitude_is_inside w m) _)

own_sizes : (r s t a b e ha hb he : ℕ) → a ≤ ha → b ≤ hb → e ≤ he
    → (r + 4) * a + (s + 4) * b + (t + 4) * e ≤ (r + 4) * ha + (s + 4) * hb + (t + 4) * he
own_sizes r s t a b e ha hb he h k l = omega (arith, mul-le-mul_left (r + 4) h, mul-le-mul_left (s + 4) k, mul-le-mul_left (t + 4) l)

own_row : (model : LoadModel) (w : LoadPhase) (p q m x y z : ℤ) (rp rq rm ha hb he d : ℕ) → has_magnitude model ≡ true
    → AreNear (by_model model 2 1 1) (exact_by model w p q m) (slopes_by model w p q m) → Moves w p q m x y z rp rq rm ha hb he d
    → Row (magnitude_row (nat_abs w.vn) x y z d) (magnitude_row (nat_abs w.vn) p q m 1)
    (slopes_by model w p q m).magnitude (radii_by model w p q m rp rq rm).magnitude (x -ℤ pos d *ℤ p) (y -ℤ pos d *ℤ q) (z -ℤ pos d *ℤ m) ha hb he d
own_row ConstantPower w p q m x y z rp rq rm ha hb he d e near moves = absurd cc
own_row ConstantImpedance w p q m x y z rp rq rm ha hb he d e near moves = absurd cc
own_row ConstantCurrent w p q m x y z rp rq rm ha hb he d e near moves =
    near_more _ _ _ _ _ (d * 2 ^ 40) refl
    (own_sizes _ _ _ _ _ _ ha hb he moves.re_size moves.im_size moves.magnitude_size)
    (magnitude_follows p q m x y z _ _ _ (nat_abs w.vn) rp rq rm d (nominal_positive w moves.phase) moves.re moves.im
    moves.magnitude near.magnitude.p near.magnitude.q near.magnitude.m)

-- ---- at a terminal

re_moves : (c : List ℤ) (x : State) (n : NodeAt) → (re_of x n -ℤ pos x.over *ℤ re_of (whole_state c) n) ≡ re_away c x n
re_moves c x Ground = omega (arith, ints)
re_moves c x (Node k) = refl

im_moves : (c : List ℤ) (x : State) (n : NodeAt) → (im_of x n -ℤ pos x.over *ℤ im_of (whole_state c) n) ≡ im_away c x n
im_moves c x Ground = omega (arith, ints)
im_moves c x (Node k) = refl

magnitude_moves : (c : List ℤ) (x : State) (l : Option ℕ)
    → (magnitude_of x l -ℤ pos x.over *ℤ magnitude_of (whole_state c) l) ≡ magnitude_away c x l
magnitude_moves c x None = omega (arith, ints)
magnitude_moves c x (Some l) = refl

between : (x1 x2 c1 c2 : ℤ) (d : ℕ) → ((x1 -ℤ x2) -ℤ pos d *ℤ (c1 -ℤ c2)) ≡ ((x1 -ℤ pos d *ℤ c1) -ℤ (x2 -ℤ pos d *ℤ c2))
between x1 x2 c1 c2 d = rw (as_val x1, as_val x2, as_val c1, as_val c2) (simp vals (val-same _ _ _ _ (omega arith)))

re_change : (c : List ℤ) (x : State) (u : LoadAt)
    → ((re_of x u.first -ℤ re_of x u.second) -ℤ pos x.over *ℤ centre_re c u) ≡ (re_away c x u.first -ℤ re_away c x u.second)
re_change c x u =
    between (re_of x u.first) (re_of x u.second) (re_of (whole_state c) u.first) (re_of (whole_state c) u.second)
    x.over
    ∙ (λ i. re_moves c x u.first i -ℤ re_moves c x u.second i)

im_change : (c : List ℤ) (x : State) (u : LoadAt)
    → ((im_of x u.first -ℤ im_of x u.second) -ℤ pos x.over *ℤ centre_im c u) ≡ (im_away c x u.first -ℤ im_away c x u.second)
im_change c x u =
    between (im_of x u.first) (im_of x u.second) (im_of (whole_state c) u.first) (im_of (whole_state c) u.second)
    x.over
    ∙ (λ i. im_moves c x u.first i -ℤ im_moves c x u.second i)

both_widths : (a b : ℤ) (d r s : ℕ) → unsigned_abs a ≤ d * r → unsigned_abs b ≤ d * s
    → unsigned_abs (a -ℤ b) ≤ d * (r + s)
both_widths a b d r s h k = omega (arith, abs_sub a b)

moved_by : (box : ℕ → ℕ) (c : List ℤ) (x : State) (u : LoadAt) → IsLoadPhase u.load → 0 < x.over → IsInBox box c x u
    → Moves u.load (centre_re c u) (centre_im c u) (centre_magnitude c u) (re_of x u.first -ℤ re_of x u.second)
    (im_of x u.first -ℤ im_of x u.second) (magnitude_of x u.magnitude) (re_width box u.first + re_width box u.second)
    (im_width box u.first + im_width box u.second) (magnitude_width box u.magnitude)
    (unsigned_abs (re_away c x u.first) + unsigned_abs (re_away c x u.second))
    (unsigned_abs (im_away c x u.first) + unsigned_abs (im_away c x u.second))
    (unsigned_abs (magnitude_away c x u.magnitude)) x.over
moved_by box c x u phase over b =
    let re = re_change c x u in
    let im = im_change c x u in
    let own = magnitude_moves c x u.magnitude in
    record {
      phase = phase;
      over = over;
      re = subst (λ z. unsigned_abs z ≤ x.over * (re_width box u.first + re_width box u.second)) (sym re)
          (both_widths (re_away c x u.first) (re_away c x u.second) x.over (re_width box u.first)
          (re_width box u.second) b.first_re b.second_re);
      im = subst (λ z. unsigned_abs z ≤ x.over * (im_width box u.first + im_width box u.second)) (sym im)
          (both_widths (im_away c x u.first) (im_away c x u.second) x.over (im_width box u.first)
          (im_width box u.second) b.first_im b.second_im);
      magnitude = subst (λ z. unsigned_abs z ≤ x.over * magnitude_width box u.magnitude) (sym own) b.magnitude;
      re_size = subst (λ z. unsigned_abs z ≤ unsigned_abs (re_away c x u.first) + unsigned_abs (re_away c x u.second))
          (sym re) (abs_sub (re_away c x u.first) (re_away c x u.second));
      im_size = subst (λ z. unsigned_abs z ≤ unsigned_abs (im_away c x u.first) + unsigned_abs (im_away c x u.second))
          (sym im) (abs_sub (im_away c x u.first) (im_away c x u.second));
      magnitude_size = subst (λ z. unsigned_abs z ≤ unsigned_abs (magnitude_away c x u.magnitude)) (sym own)
          (let o : unsigned_abs (magnitude_away c x u.magnitude) ≤ unsigned_abs (magnitude_away c x u.magnitude) =
          omega arith in
          o);
    }

same_size : (n : ℕ) → n ≤ n
same_size n = omega arith

-- a row of the phase is one at its terminal
at_terminal : (here there : Fraction) (c : List ℤ) (x : State) (u : LoadAt) (s : SlopeRow) (r : RadiusRow)
    → Row here there s r ((re_of x u.first -ℤ re_of x u.second) -ℤ pos x.over *ℤ centre_re c u)
    ((im_of x u.first -ℤ im_of x u.second) -ℤ pos x.over *ℤ centre_im c u)
    (magnitude_of x u.magnitude -ℤ pos x.over *ℤ centre_magnitude c u)
    (unsigned_abs (re_away c x u.first) + unsigned_abs (re_away c x u.second))
    (unsigned_abs (im_away c x u.first) + unsigned_abs (im_away c x u.second))
    (unsigned_abs (magnitude_away c x u.magnitude)) x.over
    → Follows here there c x u s r
at_terminal here there c x u s r row =
    near_more _ _ _ _ _ (x.over * 2 ^ 40)
    (λ i. s.p *ℤ re_change c x u i +ℤ s.q *ℤ im_change c x u i +ℤ s.m *ℤ magnitude_moves c x u.magnitude i)
    (same_size _) row

pub rows_follow : ChangeLaw
rows_follow box c x u phase linear over b =
    let w = u.load in
    let p = centre_re c u in
    let q = centre_im c u in
    let m = centre_magnitude c u in
    let near = slope_is_near w p q m phase in
    let moves = moved_by box c x u phase over b in
    record {
      real = at_terminal _ _ c x u (slopes_at c u).real (radii_in box c u).real (real_row w.model w p q m _ _ _ _ _ _ _ _ _ x.over linear near moves);
      imaginary = at_terminal _ _ c x u (slopes_at c u).imaginary (radii_in box c u).imaginary
          (imaginary_row w.model w p q m _ _ _ _ _ _ _ _ _ x.over linear near moves);
      magnitude = λ e.
          at_terminal _ _ c x u (slopes_at c u).magnitude (radii_in box c u).magnitude
          (own_row w.model w p q m _ _ _ _ _ _ _ _ _ x.over e near moves);
    }
