-- What slopes and radii at a centre say of the rows of a part load at every state in a box.
use Rattle.std.specs.Prelude.{◌≡◌, ℕ, ◌+◌, ◌*◌, ◌^◌, ◌<◌, ◌≤◌, ℤ, pos, ◌+ℤ◌, ◌-ℤ◌, ◌*ℤ◌, nat_abs, false, true, List, Option, Some, None}
use Rattle.fd_load.specs.fd_exact.Fractions.{Fraction, Near, minus}
use Rattle.fd_load.specs.fd_exact.States.{State, away}
use Rattle.fd_load.specs.fd_arith.declared.terms.NodeAt.{NodeAt}
use Rattle.fd_load.specs.fd_arith.declared.terms.NodeAt.TheVariants.{Ground, Node}
use Rattle.fd_load.specs.fd_arith.LoadModels.{has_magnitude, is_linear}
use Rattle.fd_load.specs.fd_system.declared.loads.LoadAt.{LoadAt}
use Rattle.fd_load.specs.fd_system.Loads.{im_of, load_current, magnitude_of, magnitude_row, re_of}
use Rattle.fd_load.specs.fd_system.Residual.{whole_state}
use Rattle.fd_load.specs.Current.{IsLoadPhase}
use Rattle.fd_load.specs.Slopes.{slopes_of}
use Rattle.fd_load.specs.declared.slopes.SlopeRow.{SlopeRow}
use Rattle.fd_load.specs.declared.slopes.Slopes.{Slopes}
use Rattle.fd_slope.specs.Radii.{radii_of}
use Rattle.fd_slope.specs.declared.radii.Radii.{Radii}
use Rattle.fd_slope.specs.declared.radii.RadiusRow.{RadiusRow}

-- ---- what moved, times the denominator of the state

-- the parts of a place's voltage; a place at ground doesn't move
abbrev pub re_away : List ℤ → State → NodeAt → ℤ
re_away c x Ground = pos 0
re_away c x (Node k) = away c x (2 * k)

abbrev pub im_away : List ℤ → State → NodeAt → ℤ
im_away c x Ground = pos 0
im_away c x (Node k) = away c x (2 * k + 1)

abbrev pub magnitude_away : List ℤ → State → Option ℕ → ℤ
magnitude_away c x None = pos 0
magnitude_away c x (Some l) = away c x l

-- ---- the box: half-widths by place

abbrev pub re_width : (ℕ → ℕ) → NodeAt → ℕ
re_width box Ground = 0
re_width box (Node k) = box (2 * k)

abbrev pub im_width : (ℕ → ℕ) → NodeAt → ℕ
im_width box Ground = 0
im_width box (Node k) = box (2 * k + 1)

abbrev pub magnitude_width : (ℕ → ℕ) → Option ℕ → ℕ
magnitude_width box None = 0
magnitude_width box (Some l) = box l

-- each unknown of the part load is within its half-width of the centre; nothing is said of other unknowns
pub record IsInBox (box : ℕ → ℕ) (c : List ℤ) (x : State) (u : LoadAt) : Type 0 where
  pub first_re : nat_abs (re_away c x u.first) ≤ x.over * re_width box u.first
  pub first_im : nat_abs (im_away c x u.first) ≤ x.over * im_width box u.first
  pub second_re : nat_abs (re_away c x u.second) ≤ x.over * re_width box u.second
  pub second_im : nat_abs (im_away c x u.second) ≤ x.over * im_width box u.second
  pub magnitude : nat_abs (magnitude_away c x u.magnitude) ≤ x.over * magnitude_width box u.magnitude

-- ---- a row

-- what the slopes of a row say of its change: a voltage grows with the first place's and falls with the second's
abbrev pub slope_sum : List ℤ → State → LoadAt → SlopeRow → ℤ
slope_sum c x u s =
    s.p *ℤ (re_away c x u.first -ℤ re_away c x u.second) +ℤ s.q *ℤ (im_away c x u.first -ℤ im_away c x u.second) +ℤ s.m *ℤ magnitude_away c x u.magnitude

-- by how much the change may differ: the radii, with four units more in each, times what moved
abbrev pub radius_sum : List ℤ → State → LoadAt → RadiusRow → ℕ
radius_sum c x u r =
    (r.p + 4) * (nat_abs (re_away c x u.first) + nat_abs (re_away c x u.second))
    + (r.q + 4) * (nat_abs (im_away c x u.first) + nat_abs (im_away c x u.second))
    + (r.m + 4) * nat_abs (magnitude_away c x u.magnitude)

-- a row's value is this at the state, and that at the centre
abbrev pub Follows : Fraction → Fraction → List ℤ → State → LoadAt → SlopeRow → RadiusRow → Type 0
Follows here there c x u s r = Near (minus here there) (slope_sum c x u s) (radius_sum c x u r) (x.over * 2 ^ 40)

-- ---- the law

-- the voltage and the magnitude of a part load at the centre
abbrev pub centre_re : List ℤ → LoadAt → ℤ
centre_re c u = re_of (whole_state c) u.first -ℤ re_of (whole_state c) u.second

abbrev pub centre_im : List ℤ → LoadAt → ℤ
centre_im c u = im_of (whole_state c) u.first -ℤ im_of (whole_state c) u.second

abbrev pub centre_magnitude : List ℤ → LoadAt → ℤ
centre_magnitude c u = magnitude_of (whole_state c) u.magnitude

-- the slopes at the centre, and the radii in the box, whose half-widths for a voltage are the sums of its two places'
abbrev pub slopes_at : List ℤ → LoadAt → Slopes
slopes_at c u = slopes_of u.load (centre_re c u) (centre_im c u) (centre_magnitude c u)

abbrev pub radii_in : (ℕ → ℕ) → List ℤ → LoadAt → Radii
radii_in box c u =
    radii_of u.load (centre_re c u) (centre_im c u) (centre_magnitude c u)
    (re_width box u.first + re_width box u.second) (im_width box u.first + im_width box u.second) (magnitude_width box u.magnitude)

-- (m^2 - p^2 - q^2) / Vn
abbrev pub magnitude_value : LoadAt → State → Fraction
magnitude_value u x =
    magnitude_row (nat_abs u.load.vn) (re_of x u.first -ℤ re_of x u.second) (im_of x u.first -ℤ im_of x u.second)
    (magnitude_of x u.magnitude) x.over

-- only constant current has a row of the magnitude
pub record RowsFollow (box : ℕ → ℕ) (c : List ℤ) (x : State) (u : LoadAt) : Type 0 where
  pub real : Follows (load_current u x).re (load_current u (whole_state c)).re c x u (slopes_at c u).real (radii_in box c u).real
  pub imaginary : Follows (load_current u x).im (load_current u (whole_state c)).im c x u (slopes_at c u).imaginary (radii_in box c u).imaginary
  pub magnitude : has_magnitude u.load.model ≡ true
      → Follows (magnitude_value u x) (magnitude_value u (whole_state c)) c x u (slopes_at c u).magnitude (radii_in box c u).magnitude

-- every state in the box, of every denominator; places may coincide or be ground, and magnitudes may be negative
abbrev pub ChangeLaw : Type 0
ChangeLaw = (box : ℕ → ℕ) (c : List ℤ) (x : State) (u : LoadAt)
    → IsLoadPhase u.load → is_linear u.load.model ≡ false → 0 < x.over → IsInBox box c x u → RowsFollow box c x u
