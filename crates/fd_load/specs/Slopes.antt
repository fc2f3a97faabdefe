-- The slopes of a load phase's rows in the parts p, q of its terminal voltage and in its magnitude m, rounded to whole numbers of 2^-40.
use Rattle.std.specs.Prelude.{ℕ, ◌*◌, ◌^◌, ◌≤◌, ℤ, pos, neg_ℤ, ◌-ℤ◌, ◌*ℤ◌, nat_abs, cond, Bool, ◌&&◌, int_le, nat_le}
use Rattle.fd_system.specs.fd_exact.Rounding.{near_div}
use Rattle.fd_system.specs.fd_arith.LoadModels.{by_model}
use Rattle.fd_system.specs.declared.loads.LoadPhase.{LoadPhase}
use Rattle.fd_system.specs.Loads.{square_of}
use Rattle.fd_load.specs.declared.slopes.Slopes.{Slopes}
use Rattle.fd_load.specs.declared.slopes.SlopeRow.{SlopeRow}
use Rattle.fd_load.specs.Current.{in_phase, quadrature, clamped_square, clamped_magnitude}

-- n / d to the nearest whole number of 2^-40
abbrev pub near_units : ℤ → ℕ → ℤ
near_units n d = near_div (n *ℤ pos (2 ^ 40)) d

-- a current of n / d microamperes, to the nearest whole number of 2^-20 microamperes
abbrev pub fine_current : ℤ → ℕ → ℤ
fine_current n d = near_div (n *ℤ pos (2 ^ 20)) d

-- what the power z draws over d: the conductance of P, the susceptance of Q
abbrev pub admittance : ℤ → ℕ → ℤ
admittance z d = near_units (pos (10 ^ 9) *ℤ z) d

abbrev pub slope_row : ℤ → ℤ → ℤ → SlopeRow
slope_row p q m = record { p = p; q = q; m = m }

-- ---- constant power

abbrev pub square_is_inside : LoadPhase → ℤ → ℤ → Bool
square_is_inside w p q = nat_le (nat_abs w.vlo * nat_abs w.vlo) (square_of p q) && nat_le (square_of p q) (nat_abs w.vhi * nat_abs w.vhi)

-- the current n / c grows with the part v of the voltage also by its denominator c, which changes by 2 v where the voltage is within the
-- limits, and is constant elsewhere
abbrev pub by_square : LoadPhase → ℤ → ℤ → ℤ → ℤ → ℤ
by_square w p q n v =
    let c = clamped_square w p q in
    cond (square_is_inside w p q) (near_units (pos 2 *ℤ v *ℤ fine_current n c) (2 ^ 20 * c)) (pos 0)

-- the row of the current n / c, whose slopes over a constant c are x and y
abbrev pub power_slopes : LoadPhase → ℤ → ℤ → ℤ → ℤ → ℤ → SlopeRow
power_slopes w p q x y n = slope_row (x -ℤ by_square w p q n p) (y -ℤ by_square w p q n q) (pos 0)

abbrev pub constant_power_slopes : LoadPhase → ℤ → ℤ → Slopes
constant_power_slopes w p q =
    let g = admittance w.p (clamped_square w p q) in
    let b = admittance w.q (clamped_square w p q) in
    record {
      real = power_slopes w p q g b (in_phase w p q);
      imaginary = power_slopes w p q (neg_ℤ b) g (quadrature w p q);
      magnitude = slope_row (pos 0) (pos 0) (pos 0);
    }

-- ---- constant current

abbrev pub magnitude_is_inside : LoadPhase → ℤ → Bool
magnitude_is_inside w m = int_le w.vlo m && int_le m w.vhi

-- the current n / (Vn c) falls with the magnitude c within the limits, and is constant elsewhere
abbrev pub by_magnitude : LoadPhase → ℤ → ℤ → ℤ
by_magnitude w n m =
    let c = clamped_magnitude w m in
    cond (magnitude_is_inside w m) (neg_ℤ (near_units (fine_current n (nat_abs w.vn * c)) (2 ^ 20 * c))) (pos 0)

-- the row (m^2 - p^2 - q^2) / Vn
abbrev pub magnitude_slopes : ℕ → ℤ → ℤ → ℤ → SlopeRow
magnitude_slopes vn p q m = slope_row (neg_ℤ (near_units (pos 2 *ℤ p) vn)) (neg_ℤ (near_units (pos 2 *ℤ q) vn)) (near_units (pos 2 *ℤ m) vn)

abbrev pub constant_current_slopes : LoadPhase → ℤ → ℤ → ℤ → Slopes
constant_current_slopes w p q m =
    let d = nat_abs w.vn * clamped_magnitude w m in
    let g = admittance w.p d in
    let b = admittance w.q d in
    record {
      real = slope_row g b (by_magnitude w (in_phase w p q) m);
      imaginary = slope_row (neg_ℤ b) g (by_magnitude w (quadrature w p q) m);
      magnitude = magnitude_slopes (nat_abs w.vn) p q m;
    }

-- ---- by the model

-- a constant impedance is linear: its slopes are contributions of the system
abbrev pub no_slopes : Slopes
no_slopes = record { real = slope_row (pos 0) (pos 0) (pos 0); imaginary = slope_row (pos 0) (pos 0) (pos 0); magnitude = slope_row (pos 0) (pos 0) (pos 0) }

abbrev pub slopes_of : LoadPhase → ℤ → ℤ → ℤ → Slopes
slopes_of w p q m =
    by_model w.model (constant_power_slopes w p q)
    no_slopes
    (constant_current_slopes w p q m)

-- ---- sizes

-- a row of the current: at most 2^14 siemens in the columns of the voltage, and 2^33 in that of the magnitude
pub record IsCurrentRow (r : SlopeRow) : Type 0 where
  pub p : nat_abs r.p ≤ 2 ^ 54
  pub q : nat_abs r.q ≤ 2 ^ 54
  pub m : nat_abs r.m ≤ 2 ^ 73

-- the row of the magnitude: at most 2^20
pub record IsMagnitudeRow (r : SlopeRow) : Type 0 where
  pub p : nat_abs r.p ≤ 2 ^ 60
  pub q : nat_abs r.q ≤ 2 ^ 60
  pub m : nat_abs r.m ≤ 2 ^ 60
