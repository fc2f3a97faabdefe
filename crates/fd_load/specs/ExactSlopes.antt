-- The exact slopes of a load phase's rows, as fractions, and how far the rounded ones are from them.
use Rattle.std.specs.Prelude.{ℕ, ◌*◌, ◌^◌, ℤ, pos, neg_ℤ, ◌-ℤ◌, ◌*ℤ◌, nat_abs, cond}
use Rattle.fd_system.specs.fd_exact.Fractions.{Fraction, Near, fraction}
use Rattle.fd_system.specs.fd_arith.LoadModels.{by_model}
use Rattle.fd_system.specs.declared.loads.LoadPhase.{LoadPhase}
use Rattle.fd_load.specs.declared.slopes.Slopes.{Slopes}
use Rattle.fd_load.specs.declared.slopes.SlopeRow.{SlopeRow}
use Rattle.fd_load.specs.Current.{IsLoadPhase, in_phase, quadrature, clamped_square, clamped_magnitude}
use Rattle.fd_load.specs.Slopes.{magnitude_is_inside, slopes_of, square_is_inside}

-- the slopes of a row in the parts p and q of the terminal voltage and in the magnitude m
pub record ExactRow : Type 0 where
  pub p : Fraction
  pub q : Fraction
  pub m : Fraction

-- the slopes of the real and the imaginary part of the current, in siemens, and of the row of the magnitude
pub record ExactSlopes : Type 0 where
  pub real : ExactRow
  pub imaginary : ExactRow
  pub magnitude : ExactRow

abbrev pub exact_row : Fraction → Fraction → Fraction → ExactRow
exact_row p q m = record { p = p; q = q; m = m }

abbrev pub level : Fraction
level = fraction (pos 0) 1

-- ---- constant power

-- the slope in the part v of the voltage of n / c, where n grows by a with v, and c is the clamped square: within the limits it grows by
-- 2 v, and elsewhere it is constant
abbrev pub power_slope : LoadPhase → ℤ → ℤ → ℤ → ℤ → ℤ → Fraction
power_slope w p q n a v =
    let c = clamped_square w p q in
    cond (square_is_inside w p q) (fraction (a *ℤ pos c -ℤ pos 2 *ℤ v *ℤ n) (c * c)) (fraction a c)

abbrev pub exact_constant_power : LoadPhase → ℤ → ℤ → ExactSlopes
exact_constant_power w p q =
    let a = pos (10 ^ 9) *ℤ w.p in
    let b = pos (10 ^ 9) *ℤ w.q in
    record {
      real = exact_row (power_slope w p q (in_phase w p q) a p) (power_slope w p q (in_phase w p q) b q) level;
      imaginary = exact_row (power_slope w p q (quadrature w p q) (neg_ℤ b) p) (power_slope w p q (quadrature w p q) a q) level;
      magnitude = exact_row level level level;
    }

-- ---- constant current

-- the slope of n / (Vn c) in the magnitude, where c is the clamped magnitude: within the limits it grows with it, and elsewhere it is
-- constant
abbrev pub current_slope : LoadPhase → ℤ → ℤ → Fraction
current_slope w n m =
    let c = clamped_magnitude w m in
    cond (magnitude_is_inside w m) (fraction (neg_ℤ n) (nat_abs w.vn * c * c)) level

abbrev pub exact_constant_current : LoadPhase → ℤ → ℤ → ℤ → ExactSlopes
exact_constant_current w p q m =
    let a = pos (10 ^ 9) *ℤ w.p in
    let b = pos (10 ^ 9) *ℤ w.q in
    let vn = nat_abs w.vn in
    let d = vn * clamped_magnitude w m in
    record {
      real = exact_row (fraction a d) (fraction b d) (current_slope w (in_phase w p q) m);
      imaginary = exact_row (fraction (neg_ℤ b) d) (fraction a d) (current_slope w (quadrature w p q) m);
      magnitude = exact_row (fraction (neg_ℤ (pos 2 *ℤ p)) vn) (fraction (neg_ℤ (pos 2 *ℤ q)) vn) (fraction (pos 2 *ℤ m) vn);
    }

-- ---- by the model: a constant impedance is linear, and its slopes are contributions of the system

abbrev pub exact_slopes : LoadPhase → ℤ → ℤ → ℤ → ExactSlopes
exact_slopes w p q m =
    by_model w.model (exact_constant_power w p q)
    (record { real = exact_row level level level; imaginary = exact_row level level level; magnitude = exact_row level level level })
    (exact_constant_current w p q m)

-- ---- how far the rounded slopes are from them

-- each at most n units of 2^-40
pub record IsNearRow (n : ℕ) (e : ExactRow) (r : SlopeRow) : Type 0 where
  pub p : Near e.p r.p n (2 ^ 40)
  pub q : Near e.q r.q n (2 ^ 40)
  pub m : Near e.m r.m n (2 ^ 40)

pub record AreNear (n : ℕ) (e : ExactSlopes) (s : Slopes) : Type 0 where
  pub real : IsNearRow n e.real s.real
  pub imaginary : IsNearRow n e.imaginary s.imaginary
  pub magnitude : IsNearRow n e.magnitude s.magnitude

-- at any voltage and magnitude the rounded slopes of constant power are at most two units away, and those of the other models one
abbrev pub SlopeLaw : Type 0
SlopeLaw = (w : LoadPhase) (p q m : ℤ) → IsLoadPhase w → AreNear (by_model w.model 2 1 1) (exact_slopes w p q m) (slopes_of w p q m)
