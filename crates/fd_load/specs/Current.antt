-- The current of a load phase at a terminal voltage p + j q and a magnitude m, all in whole microvolts, as one fraction in microamperes.
use Rattle.std.specs.Prelude.{◌≡◌, ℕ, ◌+◌, ◌*◌, ◌^◌, ◌≤◌, max, ℤ, pos, ◌+ℤ◌, ◌-ℤ◌, ◌*ℤ◌, ◌≤ℤ◌, nat_abs, nat_lt, Bool, IsTrue, ◌||◌, List}
use Rattle.fd_system.specs.fd_exact.Fractions.{Fraction, fraction}
use Rattle.fd_system.specs.fd_arith.LoadModels.{by_model}
use Rattle.fd_system.specs.declared.loads.LoadPhase.{LoadPhase}
use Rattle.fd_system.specs.declared.loads.LoadAt.{LoadAt}
use Rattle.fd_system.specs.Complex.{Complex, complex}
use Rattle.fd_system.specs.Loads.{re_of, im_of, magnitude_of, clamp, square_of, non_negative, load_current, magnitude_row}
use Rattle.fd_system.specs.Residual.{whole_state}

-- ---- the numerators: ((P p + Q q) + j (P q - Q p)) 10^9

abbrev pub in_phase : LoadPhase → ℤ → ℤ → ℤ
in_phase w p q = pos (10 ^ 9) *ℤ (w.p *ℤ p +ℤ w.q *ℤ q)

abbrev pub quadrature : LoadPhase → ℤ → ℤ → ℤ
quadrature w p q = pos (10 ^ 9) *ℤ (w.p *ℤ q -ℤ w.q *ℤ p)

-- ---- the denominator by the model

-- the square of the voltage, brought between the squares of the limits
abbrev pub clamped_square : LoadPhase → ℤ → ℤ → ℕ
clamped_square w p q = clamp (square_of p q) (nat_abs w.vlo * nat_abs w.vlo) (nat_abs w.vhi * nat_abs w.vhi)

-- the magnitude, brought between the limits
abbrev pub clamped_magnitude : LoadPhase → ℤ → ℕ
clamped_magnitude w m = clamp (non_negative m) (nat_abs w.vlo) (nat_abs w.vhi)

-- constant power divides by the clamped square, constant impedance by the square of the nominal voltage, constant current by the nominal
-- voltage times the clamped magnitude
abbrev pub divisor : LoadPhase → ℤ → ℤ → ℤ → ℕ
divisor w p q m =
    by_model w.model (clamped_square w p q)
    (nat_abs w.vn * nat_abs w.vn)
    (nat_abs w.vn * clamped_magnitude w m)

-- ---- the exact current

abbrev pub phase_current : LoadPhase → ℤ → ℤ → ℤ → Complex
phase_current w p q m = complex (in_phase w p q) (quadrature w p q) (divisor w p q m)

-- it is the current of the system's part load at every whole state, as the same fractions
abbrev pub CurrentLaw : Type 0
CurrentLaw = (u : LoadAt) (x : List ℤ) →
    let s = whole_state x in
    load_current u s ≡ phase_current u.load (re_of s u.first -ℤ re_of s u.second) (im_of s u.first -ℤ im_of s u.second) (magnitude_of s u.magnitude)

-- ---- the row of the magnitude

abbrev pub excess : ℤ → ℤ → ℤ → ℤ
excess p q m = m *ℤ m -ℤ p *ℤ p -ℤ q *ℤ q

-- (m^2 - p^2 - q^2) / Vn
abbrev pub phase_magnitude : LoadPhase → ℤ → ℤ → ℤ → Fraction
phase_magnitude w p q m = fraction (excess p q m) (nat_abs w.vn)

-- it is the row of the system's part load at every whole state, as the same fraction
abbrev pub MagnitudeLaw : Type 0
MagnitudeLaw = (w : LoadPhase) (p q m : ℤ) → magnitude_row (nat_abs w.vn) p q m 1 ≡ phase_magnitude w p q m

-- ---- conditions

-- the greater size of the parts
abbrev pub largest : ℤ → ℤ → ℕ
largest p q = max (nat_abs p) (nat_abs q)

-- the sum of the sizes of the powers, in thousandths of a volt-ampere
abbrev pub power_sum : LoadPhase → ℕ
power_sum w = nat_abs w.p + nat_abs w.q

-- a nominal voltage from 5 to 10^6 volt, and limits on either side of it, from 2 to 2 x 10^6 volt
pub record AreLoadVoltages (w : LoadPhase) : Type 0 where
  pub nominal_least : pos (5 * 10 ^ 6) ≤ℤ w.vn
  pub nominal_most : w.vn ≤ℤ pos (10 ^ 12)
  pub low_least : pos (2 * 10 ^ 6) ≤ℤ w.vlo
  pub low_most : w.vlo ≤ℤ w.vn
  pub high_least : w.vn ≤ℤ w.vhi
  pub high_most : w.vhi ≤ℤ pos (2 * 10 ^ 12)

-- it has more than 100 megavolt-ampere, or more than 2^12 siemens at the lower limit of its voltage: 10^-3 VA over a squared microvolt
-- are 10^9 siemens
abbrev pub is_past : LoadPhase → Bool
is_past w = nat_lt (10 ^ 11) (power_sum w) || nat_lt (2 ^ 12 * (nat_abs w.vlo * nat_abs w.vlo)) (power_sum w * 10 ^ 9)

abbrev pub IsPast : LoadPhase → Type 0
IsPast w = IsTrue (is_past w)

-- its voltages are in their ranges, and it isn't past its limit
pub record IsLoadPhase (w : LoadPhase) : Type 0 where
  pub nominal_least : pos (5 * 10 ^ 6) ≤ℤ w.vn
  pub nominal_most : w.vn ≤ℤ pos (10 ^ 12)
  pub low_least : pos (2 * 10 ^ 6) ≤ℤ w.vlo
  pub low_most : w.vlo ≤ℤ w.vn
  pub high_least : w.vn ≤ℤ w.vhi
  pub high_most : w.vhi ≤ℤ pos (2 * 10 ^ 12)
  pub power : power_sum w ≤ 10 ^ 11
  pub admittance : power_sum w * 10 ^ 9 ≤ 2 ^ 12 * (nat_abs w.vlo * nat_abs w.vlo)

-- the parts of a terminal voltage and a magnitude, each at most 2^41 in size
pub record AreVoltages (p q m : ℤ) : Type 0 where
  pub re : nat_abs p ≤ 2 ^ 41
  pub im : nat_abs q ≤ 2 ^ 41
  pub magnitude : nat_abs m ≤ 2 ^ 41
