-- The rows of a load phase.
use Rattle.std.proofs.Common.{◌≡◌, ℕ, ◌+◌, ◌*◌, ◌<◌, ◌≤◌, ◌^◌, ℤ, pos, ◌+ℤ◌, ◌-ℤ◌, ◌*ℤ◌, neg_ℤ, nat_abs, arith, refl, subst}
use Rattle.std.specs.Int.RustNames.{unsigned_abs}
use Rattle.std.proofs.Math.Nat.{le_trans, mul-le-mul, mul-le-mul_left, mul-le-mul_right, mul-pos}
use Rattle.std.proofs.lemmas.Int.{ints, unsigned_abs-mul}
use Rattle.fd_load.specs.fd_exact.Fractions.{Fraction, Near, minus}
use Rattle.fd_load.specs.fd_system.declared.loads.LoadPhase.{LoadPhase}
use Rattle.fd_load.specs.fd_system.Loads.{constant_power}
use Rattle.fd_load.specs.Current.{IsLoadPhase, clamped_square}
use Rattle.fd_load.specs.Slopes.{slope_row, square_is_inside}
use Rattle.fd_load.specs.declared.slopes.SlopeRow.{SlopeRow}
use Rattle.fd_slope.specs.Radii.{full_draw, power_radius, radius_row, square_stays_inside, square_stays_outside}
use Rattle.fd_slope.specs.declared.radii.RadiusRow.{RadiusRow}
use Rattle.fd_slope.proofs.PowerCases.{IsRounded, power_by}

-- a row, where p, q and m change by a, b and e over d, of sizes at most ha, hb and he
abbrev pub Row : Fraction → Fraction → SlopeRow → RadiusRow → ℤ → ℤ → ℤ → ℕ → ℕ → ℕ → ℕ → Type 0
Row here there s r a b e ha hb he d = Near (minus here there) (s.p *ℤ a +ℤ s.q *ℤ b +ℤ s.m *ℤ e) ((r.p + 4) * ha + (r.q + 4) * hb + (r.m + 4) * he) (d * 2 ^ 40)

pub near_more : (f : Fraction) (t t' : ℤ) (n n' k : ℕ) → t ≡ t' → n ≤ n' → Near f t n k → Near f t' n' k
near_more f t t' n n' k e h near = subst (λ z. unsigned_abs (f.top *ℤ pos k -ℤ z *ℤ pos f.over) ≤ n' * f.over) e (le_trans near (mul-le-mul_right f.over h))

-- ---- constant power

pub low_positive : (w : LoadPhase) → IsLoadPhase w → 0 < nat_abs w.vlo
low_positive w h = omega (arith, ints, h.low_least)

pub limits_order : (w : LoadPhase) → IsLoadPhase w → nat_abs w.vlo ≤ nat_abs w.vhi
limits_order w h = omega (arith, ints, h.low_least, h.low_most, h.high_least)

pub nominal_positive : (w : LoadPhase) → IsLoadPhase w → 0 < nat_abs w.vn
nominal_positive w h = omega (arith, ints, h.nominal_least)

with_nothing : (s t e : ℤ) → (s +ℤ t) ≡ (s +ℤ t +ℤ pos 0 *ℤ e)
with_nothing s t e = omega (arith, ints)

power_sizes : (r a b ha hb he : ℕ) → a ≤ ha → b ≤ hb → (r + 4) * (a + b) ≤ (r + 4) * ha + (r + 4) * hb + (0 + 4) * he
power_sizes r a b ha hb he h k = omega (arith, mul-le-mul_left (r + 4) h, mul-le-mul_left (r + 4) k)

pub power_row : (w : LoadPhase) (α β p q x y e S1 S2 : ℤ) (rp rq ha hb he d : ℕ) → IsLoadPhase w → 0 < d
    → unsigned_abs α + unsigned_abs β ≤ full_draw w
    → unsigned_abs (x -ℤ pos d *ℤ p) ≤ d * rp → unsigned_abs (y -ℤ pos d *ℤ q) ≤ d * rq
    → unsigned_abs (x -ℤ pos d *ℤ p) ≤ ha → unsigned_abs (y -ℤ pos d *ℤ q) ≤ hb
    → IsRounded (square_is_inside w p q) α p (α *ℤ p +ℤ β *ℤ q) (clamped_square w p q) S1
    → IsRounded (square_is_inside w p q) β q (α *ℤ p +ℤ β *ℤ q) (clamped_square w p q) S2
    → Row (constant_power α β (nat_abs w.vlo * nat_abs w.vlo) (nat_abs w.vhi * nat_abs w.vhi) x y d)
    (constant_power α β (nat_abs w.vlo * nat_abs w.vlo) (nat_abs w.vhi * nat_abs w.vhi) p q 1)
    (slope_row S1 S2 (pos 0)) (radius_row (power_radius w p q rp rq) (power_radius w p q rp rq) 0) (x -ℤ pos d *ℤ p)
    (y -ℤ pos d *ℤ q) e ha hb he d
power_row w α β p q x y e S1 S2 rp rq ha hb he d h d_pos hG hx hy ka kb h1 h2 =
    let lo_pos = mul-pos (low_positive w h) (low_positive w h) in
    let lim = mul-le-mul (limits_order w h) (limits_order w h) in
    near_more _ _ _ _ _ (d * 2 ^ 40)
    (with_nothing (S1 *ℤ (x -ℤ pos d *ℤ p)) (S2 *ℤ (y -ℤ pos d *ℤ q)) e)
    (power_sizes (power_radius w p q rp rq) (unsigned_abs (x -ℤ pos d *ℤ p)) (unsigned_abs (y -ℤ pos d *ℤ q)) ha hb he ka kb)
    (power_by α β p q x y S1 S2 (full_draw w) (nat_abs w.vlo * nat_abs w.vlo) (nat_abs w.vhi * nat_abs w.vhi) rp rq d
    (square_stays_inside w p q rp rq) (square_is_inside w p q) (square_stays_outside w p q rp rq) refl refl refl d_pos lo_pos lim hG hx hy h1 h2)

-- ---- the powers

scaled_size : (z : ℤ) → unsigned_abs (pos (10 ^ 9) *ℤ z) ≡ 10 ^ 9 * unsigned_abs z
scaled_size z = unsigned_abs-mul (pos (10 ^ 9)) z

pub real_draw : (w : LoadPhase) → unsigned_abs (pos (10 ^ 9) *ℤ w.p) + unsigned_abs (pos (10 ^ 9) *ℤ w.q) ≤ full_draw w
real_draw w = omega (arith, scaled_size w.p, scaled_size w.q)

negated_size : (z : ℤ) → unsigned_abs (neg_ℤ z) ≡ unsigned_abs z
negated_size z = omega (arith, ints)

pub imaginary_draw : (w : LoadPhase)
    → unsigned_abs (neg_ℤ (pos (10 ^ 9) *ℤ w.q)) + unsigned_abs (pos (10 ^ 9) *ℤ w.p) ≤ full_draw w
imaginary_draw w = omega (arith, negated_size (pos (10 ^ 9) *ℤ w.q), scaled_size w.p, scaled_size w.q)
