-- How far rounded slopes are from the exact ones.
use Rattle.std.proofs.Common.{◌≡◌, ◌∙◌, ℕ, ◌+◌, ◌*◌, ◌<◌, ◌≤◌, ◌^◌, ℤ, pos, neg_ℤ, ◌+ℤ◌, ◌-ℤ◌, ◌*ℤ◌, nat_abs, Bool, true, false, cond, nat_le, subst, arith, ap, sym, refl, lit<, inl, inr}
use Rattle.std.specs.Int.RustNames.{unsigned_abs}
use Rattle.std.proofs.lemmas.Bool.{and_parts, cases_lt}
use Rattle.std.proofs.lemmas.Int.{ints, unsigned_abs-mul}
use Rattle.std.proofs.Math.Nat.{mul-le-mul, mul-le-mul_left, mul-le-mul_right, le_of_lt, le_of_mul-le-mul_right, mul-pos}
use Rattle.fd_system.specs.fd_exact.Fractions.{Near, fraction}
use Rattle.fd_system.specs.fd_exact.Integers.{abs_add, abs_sub, as_val, neg-mul, vals, val-same}
use Rattle.fd_system.specs.fd_exact.Nearest.{near_nearest, near-neg}
use Rattle.fd_system.specs.fd_exact.Rounding.{near_div}
use Rattle.fd_system.specs.fd_arith.declared.terms.LoadModel.{LoadModel}
use Rattle.fd_system.specs.fd_arith.declared.terms.LoadModel.TheVariants.{ConstantPower, ConstantImpedance, ConstantCurrent}
use Rattle.fd_system.specs.fd_arith.LoadModels.{by_model}
use Rattle.fd_system.specs.declared.loads.LoadPhase.{LoadPhase}
use Rattle.fd_system.specs.Loads.{square_of}
use Rattle.fd_load.specs.Current.{IsLoadPhase, clamped_magnitude, clamped_square, in_phase, quadrature}
use Rattle.fd_load.specs.ExactSlopes.{AreNear, ExactSlopes, IsNearRow, SlopeLaw, current_slope, exact_constant_current, exact_constant_power, exact_row, level, power_slope}
use Rattle.fd_load.specs.declared.slopes.Slopes.{Slopes}
use Rattle.fd_load.specs.Slopes.{by_magnitude, by_square, constant_current_slopes, constant_power_slopes, fine_current, magnitude_is_inside, near_units, slope_row, square_is_inside}

flipped : (a b : ℤ) (n : ℕ) → 2 * unsigned_abs (a -ℤ b) ≤ n → 2 * unsigned_abs (b -ℤ a) ≤ n
flipped a b n h = omega (arith, ints)

-- what rounding loses: at most half
pub near_off : (z : ℤ) (c : ℕ) → 0 < c → 2 * unsigned_abs ((near_div z c *ℤ pos c) -ℤ z) ≤ c
near_off z c h = flipped z (near_div z c *ℤ pos c) c (near_nearest z c h).close

abs_of_three : (a b c : ℤ) → unsigned_abs (a *ℤ b *ℤ c) ≡ unsigned_abs a * unsigned_abs b * unsigned_abs c
abs_of_three a b c = unsigned_abs-mul (a *ℤ b) c ∙ ap (λ n. n * unsigned_abs c) (unsigned_abs-mul a b)

-- ---- one quotient

one_off : (a g : ℤ) (d : ℕ) → 2 * unsigned_abs ((g *ℤ pos d) -ℤ (a *ℤ pos (2 ^ 40))) ≤ d
    → Near (fraction a d) g 1 (2 ^ 40)
one_off a g d h = omega (arith, ints)

quotient_near : (a : ℤ) (d : ℕ) → 0 < d → Near (fraction a d) (near_units a d) 1 (2 ^ 40)
quotient_near a d h = one_off a (near_units a d) d (near_off (a *ℤ pos (2 ^ 40)) d h)

mirrored : (a g : ℤ) (d : ℕ) → Near (fraction a d) g 1 (2 ^ 40) → Near (fraction (neg_ℤ a) d) (neg_ℤ g) 1 (2 ^ 40)
mirrored a g d h =
    let e : (neg_ℤ a *ℤ pos (2 ^ 40)) -ℤ (neg_ℤ g *ℤ pos d) ≡ neg_ℤ ((a *ℤ pos (2 ^ 40)) -ℤ (g *ℤ pos d)) =
    rw (as_val a, as_val g) (simp vals (val-same _ _ _ _ (omega arith))) in
    let f : unsigned_abs (neg_ℤ ((a *ℤ pos (2 ^ 40)) -ℤ (g *ℤ pos d))) ≡ unsigned_abs ((a *ℤ pos (2 ^ 40)) -ℤ (g *ℤ pos d)) = omega (arith, ints) in
    rw (e, f) h

level_near : (n : ℕ) → Near level (pos 0) n (2 ^ 40)
level_near n = omega (arith, ints)

-- ---- constant power

column_a : (α x g w : ℤ) (c u : ℕ) → ((α *ℤ pos c -ℤ x) *ℤ pos (u * u)) -ℤ ((g -ℤ w) *ℤ pos (c * c))
    ≡ ((w *ℤ pos (c * c)) -ℤ (x *ℤ pos (u * u))) -ℤ (((g *ℤ pos c) -ℤ (α *ℤ pos (u * u))) *ℤ pos c)
column_a α x g w c u = rw (as_val α, as_val x, as_val g, as_val w) (simp vals (val-same _ _ _ _ (omega arith)))

column_b : (v n i w : ℤ) (c u : ℕ) → ((w *ℤ pos (c * c)) -ℤ (pos 2 *ℤ v *ℤ n *ℤ pos (u * u))) *ℤ pos u
    ≡ (((w *ℤ pos (u * c)) -ℤ (pos 2 *ℤ v *ℤ i *ℤ pos (u * u))) *ℤ pos c) +ℤ (((i *ℤ pos c) -ℤ (n *ℤ pos u)) *ℤ v *ℤ pos (2 * u * u))
column_b v n i w c u = rw (as_val v, as_val n, as_val i, as_val w) (simp vals (val-same _ _ _ _ (omega arith)))

-- g for the rounded a / c, w for the rounded 2 v i / c, i for the rounded current. u is 2^20, and its square 2^40
column_off : (α v n i g w : ℤ) (c u : ℕ) → 0 < u
    → 2 * unsigned_abs ((i *ℤ pos c) -ℤ (n *ℤ pos u)) ≤ c
    → 2 * unsigned_abs ((g *ℤ pos c) -ℤ (α *ℤ pos (u * u))) ≤ c
    → 2 * unsigned_abs ((w *ℤ pos (u * c)) -ℤ (pos 2 *ℤ v *ℤ i *ℤ pos (u * u))) ≤ u * c
    → unsigned_abs v * u ≤ c
    → unsigned_abs (((α *ℤ pos c -ℤ pos 2 *ℤ v *ℤ n) *ℤ pos (u * u)) -ℤ ((g -ℤ w) *ℤ pos (c * c))) ≤ 2 * (c * c)
column_off α v n i g w c u u_pos hi hg hw hv =
    let x : ℤ = (w *ℤ pos (c * c)) -ℤ (pos 2 *ℤ v *ℤ n *ℤ pos (u * u)) in
    let y : ℤ = (g *ℤ pos c) -ℤ (α *ℤ pos (u * u)) in
    let z : ℤ = (w *ℤ pos (u * c)) -ℤ (pos 2 *ℤ v *ℤ i *ℤ pos (u * u)) in
    let t : ℤ = (i *ℤ pos c) -ℤ (n *ℤ pos u) in
    let a = ap unsigned_abs (column_a α (pos 2 *ℤ v *ℤ n) g w c u) in
    let b = ap unsigned_abs (column_b v n i w c u) in
    let a2 = abs_sub x (y *ℤ pos c) in
    let a3 = unsigned_abs-mul y (pos c) in
    let b2 = abs_add (z *ℤ pos c) (t *ℤ v *ℤ pos (2 * u * u)) in
    let b3 = unsigned_abs-mul z (pos c) in
    let b4 = abs_of_three t v (pos (2 * u * u)) in
    let b5 = unsigned_abs-mul x (pos u) in
    let m1 = mul-le-mul_right c hg in
    let m2 = mul-le-mul_right c hw in
    let m3 = mul-le-mul hi hv in
    let m4 = mul-le-mul_right (2 * u) m3 in
    let g1 : 2 * unsigned_abs x * u ≤ 3 * (c * c) * u = omega arith in
    let g2 : 2 * unsigned_abs x ≤ 3 * (c * c) = le_of_mul-le-mul_right g1 u_pos in
    omega arith

-- a part of a voltage is small beside its square
small_part : (v x c u : ℕ) → v * v + x ≡ c → u * u ≤ c → v * u ≤ c
small_part v x c u e h =
    elim (cases_lt v u) [
      | inl s ↦ let m = mul-le-mul_right u (le_of_lt s) in omega arith
      | inr s ↦ let m = mul-le-mul_left v s in omega arith
    ]

within_near : (α v n : ℤ) (c x : ℕ) → 2 ^ 40 ≤ c → unsigned_abs v * unsigned_abs v + x ≡ c
    → Near (fraction (α *ℤ pos c -ℤ pos 2 *ℤ v *ℤ n) (c * c)) (near_units α c -ℤ near_units (pos 2 *ℤ v *ℤ fine_current n c) (2 ^ 20 * c)) 2 (2 ^ 40)
within_near α v n c x big e =
    let u : ℕ = 2 ^ 20 in
    let c_pos : 0 < c = omega arith in
    let fits : u * u ≤ c = omega arith in
    column_off α v n (fine_current n c) (near_units α c) (near_units (pos 2 *ℤ v *ℤ fine_current n c) (u * c)) c u (lit< tt)
    (near_off (n *ℤ pos u) c c_pos)
    (near_off (α *ℤ pos (2 ^ 40)) c c_pos)
    (near_off (pos 2 *ℤ v *ℤ fine_current n c *ℤ pos (2 ^ 40)) (u * c) (mul-pos (lit< tt) c_pos))
    (small_part (unsigned_abs v) x c u e fits)

weaker : (a g : ℤ) (d : ℕ) → Near (fraction a d) g 1 (2 ^ 40) → Near (fraction a d) g 2 (2 ^ 40)
weaker a g d h = omega arith

less_nothing : (z : ℤ) → (z -ℤ pos 0) ≡ z
less_nothing z = omega (arith, ints)

flat_near : (α : ℤ) (c : ℕ) → 0 < c → Near (fraction α c) (near_units α c -ℤ pos 0) 2 (2 ^ 40)
flat_near α c h = subst (λ z. Near (fraction α c) z 2 (2 ^ 40)) (sym (less_nothing (near_units α c))) (weaker α (near_units α c) c (quotient_near α c h))

power_by : (t : Bool) (a v n : ℤ) (c x : ℕ) → 2 ^ 40 ≤ c → (t ≡ true → unsigned_abs v * unsigned_abs v + x ≡ c)
    → Near (cond t (fraction (a *ℤ pos c -ℤ pos 2 *ℤ v *ℤ n) (c * c)) (fraction a c))
    (near_units a c -ℤ cond t (near_units (pos 2 *ℤ v *ℤ fine_current n c) (2 ^ 20 * c)) (pos 0)) 2 (2 ^ 40)
power_by true a v n c x big e = within_near a v n c x big (e refl)
power_by false a v n c x big e = flat_near a c (omega arith)

at_most : (a b : ℕ) → nat_le a b ≡ true → a ≤ b
at_most a b e = grind arith

-- within the limits nothing is clamped
inside_is : (w : LoadPhase) (p q : ℤ) → square_is_inside w p q ≡ true → square_of p q ≡ clamped_square w p q
inside_is w p q e =
    let f = and_parts (nat_le (nat_abs w.vlo * nat_abs w.vlo) (square_of p q)) (nat_le (square_of p q) (nat_abs w.vhi * nat_abs w.vhi)) e in
    let low = at_most _ _ f.0 in
    let high = at_most _ _ f.1 in
    omega arith

low_size : (w : LoadPhase) → IsLoadPhase w → 2 * 10 ^ 6 ≤ nat_abs w.vlo
low_size w h = omega (arith, ints, h.low_least)

high_size : (w : LoadPhase) → IsLoadPhase w → nat_abs w.vlo ≤ nat_abs w.vhi
high_size w h = omega (arith, ints, h.low_least, h.low_most, h.high_least)

square_large : (w : LoadPhase) (p q : ℤ) → IsLoadPhase w → 2 ^ 40 ≤ clamped_square w p q
square_large w p q h =
    let low = mul-le-mul (low_size w h) (low_size w h) in
    let high = mul-le-mul (high_size w h) (high_size w h) in
    omega arith

magnitude_large : (w : LoadPhase) (m : ℤ) → IsLoadPhase w → 2 ^ 20 ≤ clamped_magnitude w m
magnitude_large w m h = omega (arith, low_size w h, high_size w h)

nominal_positive : (w : LoadPhase) → IsLoadPhase w → 0 < nat_abs w.vn
nominal_positive w h = omega (arith, ints, h.nominal_least)

turned_sum : (x y c : ℕ) → x + y ≡ c → y + x ≡ c
turned_sum x y c e = omega arith

by_p : (w : LoadPhase) (p q n a : ℤ) → IsLoadPhase w
    → Near (power_slope w p q n a p) (near_units a (clamped_square w p q) -ℤ by_square w p q n p) 2 (2 ^ 40)
by_p w p q n a h = power_by (square_is_inside w p q) a p n (clamped_square w p q) (unsigned_abs q * unsigned_abs q) (square_large w p q h) (inside_is w p q)

by_q : (w : LoadPhase) (p q n a : ℤ) → IsLoadPhase w
    → Near (power_slope w p q n a q) (near_units a (clamped_square w p q) -ℤ by_square w p q n q) 2 (2 ^ 40)
by_q w p q n a h = power_by (square_is_inside w p q) a q n (clamped_square w p q) (unsigned_abs p * unsigned_abs p) (square_large w p q h)
    (λ e. turned_sum (unsigned_abs p * unsigned_abs p) (unsigned_abs q * unsigned_abs q) _ (inside_is w p q e))

opposite_units : (a : ℤ) (d : ℕ) → near_units (neg_ℤ a) d ≡ neg_ℤ (near_units a d)
opposite_units a d = ap (λ z. near_div z d) (neg-mul a (pos (2 ^ 40))) ∙ near-neg (a *ℤ pos (2 ^ 40)) d

power_near : (w : LoadPhase) (p q : ℤ) → IsLoadPhase w
    → AreNear 2 (exact_constant_power w p q) (constant_power_slopes w p q)
power_near w p q h =
    let a = pos (10 ^ 9) *ℤ w.p in
    let b = pos (10 ^ 9) *ℤ w.q in
    let c = clamped_square w p q in
    let n = quadrature w p q in
    record {
      real = record { p = by_p w p q (in_phase w p q) a h; q = by_q w p q (in_phase w p q) b h; m = level_near 2 };
      imaginary = record {
        p = subst (λ z. Near (power_slope w p q n (neg_ℤ b) p) (z -ℤ by_square w p q n p) 2 (2 ^ 40)) (opposite_units b c) (by_p w p q n (neg_ℤ b) h);
        q = by_q w p q n a h;
        m = level_near 2;
      };
      magnitude = record { p = level_near 2; q = level_near 2; m = level_near 2 };
    }

-- ---- constant current

round_magnitude : (n i s : ℤ) (v c u : ℕ) → ((s *ℤ pos (v * c * c)) -ℤ (n *ℤ pos (u * u))) *ℤ pos u
    ≡ (((s *ℤ pos (u * c)) -ℤ (i *ℤ pos (u * u))) *ℤ pos (v * c)) +ℤ (((i *ℤ pos (v * c)) -ℤ (n *ℤ pos u)) *ℤ pos (u * u))
round_magnitude n i s v c u = rw (as_val n, as_val i, as_val s) (simp vals (val-same _ _ _ _ (omega arith)))

-- i for the rounded current, s for the rounded i / c
magnitude_off : (n i s : ℤ) (v c u : ℕ) → 0 < u → u ≤ c → 2 * unsigned_abs ((i *ℤ pos (v * c)) -ℤ (n *ℤ pos u)) ≤ v * c
    → 2 * unsigned_abs ((s *ℤ pos (u * c)) -ℤ (i *ℤ pos (u * u))) ≤ u * c
    → unsigned_abs ((s *ℤ pos (v * c * c)) -ℤ (n *ℤ pos (u * u))) ≤ v * c * c
magnitude_off n i s v c u u_pos small hi hs =
    let x : ℤ = (s *ℤ pos (u * c)) -ℤ (i *ℤ pos (u * u)) in
    let y : ℤ = (i *ℤ pos (v * c)) -ℤ (n *ℤ pos u) in
    let z : ℤ = (s *ℤ pos (v * c * c)) -ℤ (n *ℤ pos (u * u)) in
    let e = ap unsigned_abs (round_magnitude n i s v c u) in
    let a = abs_add (x *ℤ pos (v * c)) (y *ℤ pos (u * u)) in
    let a1 = unsigned_abs-mul x (pos (v * c)) in
    let a2 = unsigned_abs-mul y (pos (u * u)) in
    let a3 = unsigned_abs-mul z (pos u) in
    let m1 = mul-le-mul_right (v * c) hs in
    let m2 = mul-le-mul_right (u * u) hi in
    let m3 = mul-le-mul_left (v * c * u) small in
    let g : unsigned_abs z * u ≤ v * c * c * u = omega arith in
    le_of_mul-le-mul_right g u_pos

both_turned : (n s : ℤ) (d k : ℕ) → ((neg_ℤ n *ℤ pos k) -ℤ (neg_ℤ s *ℤ pos d)) ≡ ((s *ℤ pos d) -ℤ (n *ℤ pos k))
both_turned n s d k = rw (as_val n, as_val s) (simp vals (val-same _ _ _ _ (omega arith)))

within_magnitude : (n : ℤ) (v c : ℕ) → 0 < v → 2 ^ 20 ≤ c
    → Near (fraction (neg_ℤ n) (v * c * c)) (neg_ℤ (near_units (fine_current n (v * c)) (2 ^ 20 * c))) 1 (2 ^ 40)
within_magnitude n v c v_pos big =
    let u : ℕ = 2 ^ 20 in
    let i : ℤ = fine_current n (v * c) in
    let s : ℤ = near_units i (u * c) in
    let c_pos : 0 < c = omega arith in
    let off = magnitude_off n i s v c u (lit< tt) big (near_off (n *ℤ pos u) (v * c) (mul-pos v_pos c_pos))
    (near_off (i *ℤ pos (2 ^ 40)) (u * c) (mul-pos (lit< tt) c_pos)) in
    rw (both_turned n s (v * c * c) (2 ^ 40)) (omega arith)

magnitude_by : (t : Bool) (n : ℤ) (v c : ℕ) → 0 < v → 2 ^ 20 ≤ c
    → Near (cond t (fraction (neg_ℤ n) (v * c * c)) level) (cond t (neg_ℤ (near_units (fine_current n (v * c)) (2 ^ 20 * c))) (pos 0)) 1 (2 ^ 40)
magnitude_by true n v c h big = within_magnitude n v c h big
magnitude_by false n v c h big = level_near 1

by_m : (w : LoadPhase) (n m : ℤ) → IsLoadPhase w → Near (current_slope w n m) (by_magnitude w n m) 1 (2 ^ 40)
by_m w n m h = magnitude_by (magnitude_is_inside w m) n (nat_abs w.vn) (clamped_magnitude w m) (nominal_positive w h) (magnitude_large w m h)

current_near : (w : LoadPhase) (p q m : ℤ) → IsLoadPhase w
    → AreNear 1 (exact_constant_current w p q m) (constant_current_slopes w p q m)
current_near w p q m h =
    let a = pos (10 ^ 9) *ℤ w.p in
    let b = pos (10 ^ 9) *ℤ w.q in
    let vn = nat_abs w.vn in
    let vn_pos = nominal_positive w h in
    let large = magnitude_large w m h in
    let d = vn * clamped_magnitude w m in
    let d_pos : 0 < d = mul-pos vn_pos (let g : 0 < clamped_magnitude w m = omega arith in g) in
    record {
      real = record { p = quotient_near a d d_pos; q = quotient_near b d d_pos; m = by_m w (in_phase w p q) m h };
      imaginary = record { p = mirrored b (near_units b d) d (quotient_near b d d_pos); q = quotient_near a d d_pos; m = by_m w (quadrature w p q) m h };
      magnitude = record {
        p = mirrored (pos 2 *ℤ p) (near_units (pos 2 *ℤ p) vn) vn (quotient_near (pos 2 *ℤ p) vn vn_pos);
        q = mirrored (pos 2 *ℤ q) (near_units (pos 2 *ℤ q) vn) vn (quotient_near (pos 2 *ℤ q) vn vn_pos);
        m = quotient_near (pos 2 *ℤ m) vn vn_pos;
      };
    }

-- ---- by the model

level_row : IsNearRow 1 (exact_row level level level) (slope_row (pos 0) (pos 0) (pos 0))
level_row = record { p = level_near 1; q = level_near 1; m = level_near 1 }

in_each : (model : LoadModel) (e f g : ExactSlopes) (a b c : Slopes) → AreNear 2 e a → AreNear 1 f b → AreNear 1 g c
    → AreNear (by_model model 2 1 1) (by_model model e f g) (by_model model a b c)
in_each ConstantPower e f g a b c h i j = h
in_each ConstantImpedance e f g a b c h i j = i
in_each ConstantCurrent e f g a b c h i j = j

pub slopes_near : SlopeLaw
slopes_near w p q m h =
    in_each w.model _ _ _ _ _ _ (power_near w p q h)
    (record { real = level_row; imaginary = level_row; magnitude = level_row }) (current_near w p q m h)
