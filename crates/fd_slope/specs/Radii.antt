-- The radii of a load phase's slopes in a box: how far the change of a row may be from what the slopes at the centre say. They are whole
-- numbers of 2^-40, each quotient and each product rounded up.
use Rattle.std.specs.Prelude.{ℕ, ◌+◌, ◌*◌, ◌-◌, ◌^◌, ◌≤◌, max, ℤ, pos, ◌+ℤ◌, nat_abs, Bool, ◌&&◌, ◌||◌, nat_le, int_le, cond}
use Rattle.fd_load.specs.fd_exact.Rounding.{ceil_nat}
use Rattle.fd_load.specs.fd_arith.LoadModels.{by_model}
use Rattle.fd_load.specs.fd_system.declared.loads.LoadPhase.{LoadPhase}
use Rattle.fd_load.specs.fd_system.Loads.{square_of}
use Rattle.fd_load.specs.Current.{clamped_magnitude, clamped_square, largest, power_sum}
use Rattle.fd_slope.specs.declared.radii.Radii.{Radii}
use Rattle.fd_slope.specs.declared.radii.RadiusRow.{RadiusRow}

-- n / d in units of 2^-40, rounded up
abbrev pub at_scale : ℕ → ℕ → ℕ
at_scale n d = ceil_nat (n * 2 ^ 40) d

-- the product of two numbers of units, rounded up
abbrev pub product_up : ℕ → ℕ → ℕ
product_up x y = ceil_nat (x * y) (2 ^ 40)

-- the sum of the sizes of the powers, in units of which one over a squared microvolt is a siemens
abbrev pub full_draw : LoadPhase → ℕ
full_draw w = 10 ^ 9 * power_sum w

abbrev pub radius_row : ℕ → ℕ → ℕ → RadiusRow
radius_row p q m = record { p = p; q = q; m = m }

-- ---- constant power: the box of p and q has the half-widths rp and rq

-- how far the square of the voltage moves in the box, at most
abbrev pub square_moves : ℤ → ℤ → ℕ → ℕ → ℕ
square_moves p q rp rq = (2 * nat_abs p + rp) * rp + (2 * nat_abs q + rq) * rq

-- the square stays within the squares of the limits, or on one side of both; else it may straddle a limit
abbrev pub square_stays_inside : LoadPhase → ℤ → ℤ → ℕ → ℕ → Bool
square_stays_inside w p q rp rq =
    nat_le (nat_abs w.vlo * nat_abs w.vlo + square_moves p q rp rq) (square_of p q)
    && nat_le (square_of p q + square_moves p q rp rq) (nat_abs w.vhi * nat_abs w.vhi)

abbrev pub square_stays_outside : LoadPhase → ℤ → ℤ → ℕ → ℕ → Bool
square_stays_outside w p q rp rq =
    nat_le (square_of p q + square_moves p q rp rq) (nat_abs w.vlo * nat_abs w.vlo)
    || nat_le (nat_abs w.vhi * nat_abs w.vhi + square_moves p q rp rq) (square_of p q)

-- the least clamped square in the box, or less
abbrev pub least_square : LoadPhase → ℤ → ℤ → ℕ → ℕ → ℕ
least_square w p q rp rq = max (nat_abs w.vlo * nat_abs w.vlo) (clamped_square w p q - square_moves p q rp rq)

-- what the voltage's own change adds, inside and where a limit is straddled
abbrev pub turned_inside : LoadPhase → ℤ → ℤ → ℕ → ℕ → ℕ
turned_inside w p q rp rq =
    let n = least_square w p q rp rq in
    at_scale (largest p q * max rp rq) n
    + product_up (2 * at_scale (largest p q * largest p q) (clamped_square w p q)) (at_scale (square_moves p q rp rq) n)

abbrev pub turned_across : LoadPhase → ℤ → ℤ → ℕ → ℕ → ℕ
turned_across w p q rp rq = at_scale (largest p q * (2 * largest p q + max rp rq)) (least_square w p q rp rq)

-- the radius of each slope of the current in p and in q, where the voltage's own change adds x
abbrev pub power_radius_with : LoadPhase → ℤ → ℤ → ℕ → ℕ → ℕ → ℕ
power_radius_with w p q rp rq x =
    product_up (at_scale (full_draw w) (clamped_square w p q)) (at_scale (square_moves p q rp rq) (least_square w p q rp rq) + x)

abbrev pub power_radius : LoadPhase → ℤ → ℤ → ℕ → ℕ → ℕ
power_radius w p q rp rq =
    cond (square_stays_inside w p q rp rq) (power_radius_with w p q rp rq (turned_inside w p q rp rq))
    (cond (square_stays_outside w p q rp rq) 0
    (power_radius_with w p q rp rq (turned_across w p q rp rq)))

abbrev pub power_radii : LoadPhase → ℤ → ℤ → ℕ → ℕ → Radii
power_radii w p q rp rq =
    let r = power_radius w p q rp rq in
    record { real = radius_row r r 0; imaginary = radius_row r r 0; magnitude = radius_row 0 0 0 }

-- ---- constant current: the box of m has the half-width rm

abbrev pub magnitude_stays_inside : LoadPhase → ℤ → ℕ → Bool
magnitude_stays_inside w m rm = int_le (w.vlo +ℤ pos rm) m && int_le (m +ℤ pos rm) w.vhi

abbrev pub magnitude_stays_outside : LoadPhase → ℤ → ℕ → Bool
magnitude_stays_outside w m rm = int_le (m +ℤ pos rm) w.vlo || int_le (w.vhi +ℤ pos rm) m

-- the least clamped magnitude in the box, or less
abbrev pub least_magnitude : LoadPhase → ℤ → ℕ → ℕ
least_magnitude w m rm = max (nat_abs w.vlo) (clamped_magnitude w m - rm)

-- the sum of the powers' sizes over the denominator at the centre, in units of 2^-40 siemens
abbrev pub admittance_up : LoadPhase → ℤ → ℕ
admittance_up w m = at_scale (full_draw w) (nat_abs w.vn * clamped_magnitude w m)

-- the radius of each slope of the current in p and in q
abbrev pub voltage_radius_with : LoadPhase → ℤ → ℕ → ℕ
voltage_radius_with w m rm = product_up (admittance_up w m) (at_scale rm (least_magnitude w m rm))

abbrev pub voltage_radius : LoadPhase → ℤ → ℕ → ℕ
voltage_radius w m rm =
    cond (magnitude_stays_inside w m rm) (voltage_radius_with w m rm)
    (cond (magnitude_stays_outside w m rm) 0
    (voltage_radius_with w m rm))

-- the radius of each slope of the current in m, inside and where a limit is straddled
abbrev pub magnitude_radius_inside : LoadPhase → ℤ → ℤ → ℤ → ℕ → ℕ
magnitude_radius_inside w p q m rm =
    product_up (admittance_up w m) (product_up (at_scale (largest p q) (clamped_magnitude w m)) (at_scale rm (least_magnitude w m rm)))

abbrev pub magnitude_radius_across : LoadPhase → ℤ → ℤ → ℤ → ℕ → ℕ
magnitude_radius_across w p q m rm = product_up (admittance_up w m) (at_scale (largest p q) (least_magnitude w m rm))

abbrev pub magnitude_radius : LoadPhase → ℤ → ℤ → ℤ → ℕ → ℕ
magnitude_radius w p q m rm =
    cond (magnitude_stays_inside w m rm) (magnitude_radius_inside w p q m rm)
    (cond (magnitude_stays_outside w m rm) 0
    (magnitude_radius_across w p q m rm))

abbrev pub current_radii : LoadPhase → ℤ → ℤ → ℤ → ℕ → ℕ → ℕ → Radii
current_radii w p q m rp rq rm =
    let r = voltage_radius w m rm in
    let s = magnitude_radius w p q m rm in
    let vn = nat_abs w.vn in
    record { real = radius_row r r s; imaginary = radius_row r r s; magnitude = radius_row (at_scale rp vn) (at_scale rq vn) (at_scale rm vn) }

-- ---- by the model: a constant impedance has no slopes but the system's contributions

abbrev pub no_radii : Radii
no_radii = record { real = radius_row 0 0 0; imaginary = radius_row 0 0 0; magnitude = radius_row 0 0 0 }

abbrev pub radii_of : LoadPhase → ℤ → ℤ → ℤ → ℕ → ℕ → ℕ → Radii
radii_of w p q m rp rq rm =
    by_model w.model (power_radii w p q rp rq)
    no_radii
    (current_radii w p q m rp rq rm)

-- ---- conditions and sizes

-- the half-widths of a box, each at most 2^41
pub record AreWidths (rp rq rm : ℕ) : Type 0 where
  pub re : rp ≤ 2 ^ 41
  pub im : rq ≤ 2 ^ 41
  pub magnitude : rm ≤ 2 ^ 41

-- each radius of a row is at most 2^100
pub record IsRadiusRow (r : RadiusRow) : Type 0 where
  pub p : r.p ≤ 2 ^ 100
  pub q : r.q ≤ 2 ^ 100
  pub m : r.m ≤ 2 ^ 100

pub record AreRadii (r : Radii) : Type 0 where
  pub real : IsRadiusRow r.real
  pub imaginary : IsRadiusRow r.imaginary
  pub magnitude : IsRadiusRow r.magnitude
