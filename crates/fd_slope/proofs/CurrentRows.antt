-- The change of a current over the clamped magnitude.
use Rattle.std.proofs.Common.{◌≡◌, ◌∙◌, ◌⊎◌, ℕ, suc, ◌+◌, ◌*◌, ◌-◌, ◌<◌, ◌≤◌, ◌^◌, max, ℤ, pos, negsuc, ◌+ℤ◌, ◌-ℤ◌, ◌*ℤ◌, neg_ℤ, Bool, true, false, cond, arith, sym, refl, ap, inl, inr, lit<, subst}
use Rattle.std.specs.Int.RustNames.{unsigned_abs}
use Rattle.std.proofs.Math.Nat.{mul-le-mul_left, mul-le-mul_right, le_of_mul-le-mul_right, le_trans, mul-pos, mul-le-mul}
use Rattle.std.proofs.lemmas.Int.{ints, unsigned_abs-mul}
use Rattle.std.proofs.lemmas.Bool.{cases_lt}
use Rattle.fd_load.specs.fd_exact.Fractions.{Near, fraction, minus}
use Rattle.fd_load.specs.fd_exact.Integers.{abs_add, abs_sub, as_val, pos_val, vals, val-same}
use Rattle.fd_load.specs.fd_exact.Quotients.{ceil_nat_covers}
use Rattle.fd_load.specs.fd_exact.Rounding.{ceil_nat}
use Rattle.fd_load.specs.fd_system.Loads.{clamp, constant_current, non_negative}
use Rattle.fd_load.specs.ExactSlopes.{level}
use Rattle.fd_slope.specs.Radii.{at_scale, product_up}
use Rattle.fd_slope.proofs.Clamping.{Between, between_abs, between_size, between_times, clamp_between, max_of, scaled_clamp}
use Rattle.fd_slope.proofs.PowerCases.{both_ways, inside_facts, inside_lies, lies_inside, outside_facts, stays_inside, stays_outside, true_false}
use Rattle.fd_slope.proofs.Quotients.{abs_of_three, abs_pair, near_by, pair_by_sum, rejoin, top_is}

-- the radii, with G for the sum of the powers' sizes, v for the nominal voltage, lo for the lower limit, c for the clamped magnitude at the
-- centre
abbrev pub steady_radius_of : ℕ → ℕ → ℕ → ℕ → ℕ → ℕ
steady_radius_of G v lo c rm = product_up (at_scale G (v * c)) (at_scale rm (max lo (c - rm)))

abbrev pub magnitude_inside_of : ℕ → ℕ → ℕ → ℕ → ℤ → ℤ → ℕ → ℕ
magnitude_inside_of G v lo c p q rm =
    product_up (at_scale G (v * c))
    (product_up (at_scale (max (unsigned_abs p) (unsigned_abs q)) c) (at_scale rm (max lo (c - rm))))

abbrev pub magnitude_across_of : ℕ → ℕ → ℕ → ℕ → ℤ → ℤ → ℕ → ℕ
magnitude_across_of G v lo c p q rm = product_up (at_scale G (v * c)) (at_scale (max (unsigned_abs p) (unsigned_abs q)) (max lo (c - rm)))

-- the identity: w for the change of the divisor, l for what the slope of the magnitude takes
exact_5 : (N M l w : ℤ) (c d D : ℕ) → pos D ≡ pos c *ℤ pos d +ℤ w
    → pos d *ℤ (((pos d *ℤ N +ℤ M) *ℤ pos c -ℤ N *ℤ pos D) *ℤ pos c) -ℤ (M *ℤ pos c -ℤ N *ℤ l) *ℤ pos D
    ≡ N *ℤ (l *ℤ pos D -ℤ w *ℤ pos (d * c)) -ℤ M *ℤ w *ℤ pos c
exact_5 N M l w c d D e = rw (e, as_val N, as_val M, as_val l, as_val w) (simp vals (val-same _ _ _ _ (omega arith)))

-- the radius in the columns of the voltage
radius_voltage : (k G g v c rm y n r : ℕ) → 0 < k → G * k ≤ g * (v * c) → rm * k ≤ y * n → g * y ≤ r * k
    → k * (G * rm) ≤ r * (v * c * n)
radius_voltage k G g v c rm y n r k_pos h1 h2 h3 =
    let two = mul-le-mul h1 h2 in
    let three = mul-le-mul_right (v * c * n) h3 in
    let g4 : k * (G * rm) * k ≤ r * (v * c * n) * k = omega arith in
    le_of_mul-le-mul_right g4 k_pos

radius_magnitude_inside : (k G g v c A z rm y n x r : ℕ) → 0 < k → G * k ≤ g * (v * c) → A * k ≤ z * c → rm * k ≤ y * n
    → z * y ≤ x * k → g * x ≤ r * k → k * (G * A * rm) ≤ r * (v * c * c * n)
radius_magnitude_inside k G g v c A z rm y n x r k_pos h1 h2 h3 h4 h5 =
    let one = mul-le-mul h2 h3 in
    let one2 = mul-le-mul_right (c * n) h4 in
    let one3 : A * rm * k * k ≤ x * k * (c * n) = omega arith in
    let one4 : A * rm * k ≤ x * (c * n) = le_of_mul-le-mul_right {k = k} (omega arith) k_pos in
    let two = mul-le-mul h1 one4 in
    let three = mul-le-mul_right (v * c * (c * n)) h5 in
    let g4 : k * (G * A * rm) * k ≤ r * (v * c * c * n) * k = omega arith in
    le_of_mul-le-mul_right g4 k_pos

-- the whole of what is left, from a bound on each part
parts_bound : (k r r' v c D h e : ℕ) (N M f w : ℤ)
    → k * (unsigned_abs M * unsigned_abs w * c) ≤ r * h * (v * c * c * D)
    → k * (unsigned_abs N * unsigned_abs f) ≤ r' * e * (v * c * c * D)
    → k * unsigned_abs (N *ℤ f -ℤ M *ℤ w *ℤ pos c) ≤ (r * h + r' * e) * (v * c * c * D)
parts_bound k r r' v c D h e N M f w h1 h2 =
    let a = abs_sub (N *ℤ f) (M *ℤ w *ℤ pos c) in
    let a2 = unsigned_abs-mul N f in
    let a3 = abs_of_three M w (pos c) in
    let a4 : unsigned_abs (N *ℤ f -ℤ M *ℤ w *ℤ pos c) ≤ unsigned_abs N * unsigned_abs f + unsigned_abs M * unsigned_abs w * c = omega arith in
    let a5 = mul-le-mul_left k a4 in
    omega arith

voltage_part : (k G g v c rm y n r h d D M w : ℕ) → 0 < k → G * k ≤ g * (v * c) → rm * k ≤ y * n → g * y ≤ r * k
    → M ≤ G * h → w ≤ d * rm → d * n ≤ D
    → k * (M * w * c) ≤ r * h * (v * c * c * D)
voltage_part k G g v c rm y n r h d D M w k_pos h1 h2 h3 hM hw hD =
    let rad = radius_voltage k G g v c rm y n r k_pos h1 h2 h3 in
    let a = mul-le-mul_left (k * c) (mul-le-mul hM hw) in
    let b = mul-le-mul_left (h * c * d) rad in
    let b2 = mul-le-mul_left (r * h * (v * c * c)) hD in
    omega arith

magnitude_inside : (k G g v c A z rm y n x r e d D N f : ℕ) → 0 < k → G * k ≤ g * (v * c) → A * k ≤ z * c
    → rm * k ≤ y * n → z * y ≤ x * k → g * x ≤ r * k → N ≤ G * A → f ≤ e * (d * rm) → d * n ≤ D
    → k * (N * f) ≤ r * e * (v * c * c * D)
magnitude_inside k G g v c A z rm y n x r e d D N f k_pos h1 h2 h3 h4 h5 hN hf hD =
    let rad = radius_magnitude_inside k G g v c A z rm y n x r k_pos h1 h2 h3 h4 h5 in
    let a = mul-le-mul_left k (mul-le-mul hN hf) in
    let b = mul-le-mul_left (e * d) rad in
    let b2 = mul-le-mul_left (r * e * (v * c * c)) hD in
    omega arith

magnitude_across : (k G g v c A n x r e D N f : ℕ) → 0 < k → 0 < n → G * k ≤ g * (v * c) → A * k ≤ x * n → g * x ≤ r * k
    → N ≤ G * A → n * f ≤ e * (c * D)
    → k * (N * f) ≤ r * e * (v * c * c * D)
magnitude_across k G g v c A n x r e D N f k_pos n_pos h1 h2 h3 hN hf =
    let rad : k * (G * A) ≤ r * (v * c * n) = radius_voltage k G g v c A x n r k_pos h1 h2 h3 in
    let a = mul-le-mul_left k (mul-le-mul hN hf) in
    let b = mul-le-mul_left (e * (c * D)) rad in
    let g5 : k * (N * f) * n ≤ r * e * (v * c * c * D) * n = omega arith in
    le_of_mul-le-mul_right g5 n_pos

-- ---- the change of the divisor
divisor_between : (m lo hi d : ℕ) (z : ℤ) → lo ≤ hi
    → Between (pos (clamp (non_negative z) (lo * d) (hi * d)) -ℤ pos (clamp m lo hi * d)) (pos (non_negative z) -ℤ pos (m * d))
divisor_between m lo hi d z lim =
    subst (λ (k : ℕ). Between (pos (clamp (non_negative z) (lo * d) (hi * d)) -ℤ pos k) (pos (non_negative z) -ℤ pos (m * d))) (sym (scaled_clamp m lo hi d))
    (clamp_between (m * d) (non_negative z) (lo * d) (hi * d) (mul-le-mul_right d lim))

-- a value below 0 counts as 0, which is no further from what is at least 0
further : (w z : ℤ) (k : ℕ) → Between w (pos (non_negative z) -ℤ pos k) → Between w (z -ℤ pos k)
further w (pos n) k b = b
further w (negsuc j) k (n, m, inl (e, f)) =
    let zero_n : n ≡ 0 = omega (arith, ints) in
    (0, suc j + k, inr (e ∙ rw zero_n refl, omega (arith, ints)))
further w (negsuc j) k (n, m, inr (e, f)) = (n, m + suc j, inr (e, omega (arith, ints)))

-- the roundings
round_voltage : (α g : ℤ) (v c k : ℕ) → unsigned_abs (α *ℤ pos k -ℤ g *ℤ pos (v * c)) ≤ 1 * (v * c)
    → unsigned_abs (α *ℤ pos (c * k) -ℤ g *ℤ pos (v * c * c)) ≤ v * c * c
round_voltage α g v c k h =
    let e : α *ℤ pos (c * k) -ℤ g *ℤ pos (v * c * c) ≡ (α *ℤ pos k -ℤ g *ℤ pos (v * c)) *ℤ pos c =
    rw (as_val α, as_val g) (simp vals (val-same _ _ _ _ (omega arith))) in
    let f = unsigned_abs-mul (α *ℤ pos k -ℤ g *ℤ pos (v * c)) (pos c) in
    let m = mul-le-mul_right c h in
    rw e (omega arith)

-- the three columns together
row_5 : (α β a b N e g1 g2 s : ℤ) (v c k : ℕ)
    → ((α *ℤ a +ℤ β *ℤ b) *ℤ pos c -ℤ N *ℤ e) *ℤ pos k -ℤ (g1 *ℤ a +ℤ g2 *ℤ b +ℤ s *ℤ e) *ℤ pos (v * c * c)
    ≡ (α *ℤ pos (c * k) -ℤ g1 *ℤ pos (v * c * c)) *ℤ a +ℤ (β *ℤ pos (c * k) -ℤ g2 *ℤ pos (v * c * c)) *ℤ b +ℤ (neg_ℤ N *ℤ pos k -ℤ s *ℤ pos (v * c * c)) *ℤ e
row_5 α β a b N e g1 g2 s v c k =
    rw (as_val α, as_val β, as_val a, as_val b, as_val N, as_val e, as_val g1, as_val g2, as_val s)
    (simp vals (val-same _ _ _ _ (omega arith)))

row_5_off : (α β a b N e g1 g2 s : ℤ) (v c k m : ℕ) → unsigned_abs (α *ℤ pos (c * k) -ℤ g1 *ℤ pos (v * c * c)) ≤ m
    → unsigned_abs (β *ℤ pos (c * k) -ℤ g2 *ℤ pos (v * c * c)) ≤ m
    → unsigned_abs (neg_ℤ N *ℤ pos k -ℤ s *ℤ pos (v * c * c)) ≤ m
    → unsigned_abs (((α *ℤ a +ℤ β *ℤ b) *ℤ pos c -ℤ N *ℤ e) *ℤ pos k
    -ℤ (g1 *ℤ a +ℤ g2 *ℤ b +ℤ s *ℤ e) *ℤ pos (v * c * c))
    ≤ m * (unsigned_abs a + unsigned_abs b + unsigned_abs e)
row_5_off α β a b N e g1 g2 s v c k m h1 h2 h3 =
    let x : ℤ = α *ℤ pos (c * k) -ℤ g1 *ℤ pos (v * c * c) in
    let y : ℤ = β *ℤ pos (c * k) -ℤ g2 *ℤ pos (v * c * c) in
    let z : ℤ = neg_ℤ N *ℤ pos k -ℤ s *ℤ pos (v * c * c) in
    let f = abs_add (x *ℤ a +ℤ y *ℤ b) (z *ℤ e) in
    let f2 = abs_pair x y a b in
    let f3 = unsigned_abs-mul z e in
    let m1 = mul-le-mul_right (unsigned_abs a) h1 in
    let m2 = mul-le-mul_right (unsigned_abs b) h2 in
    let m3 = mul-le-mul_right (unsigned_abs e) h3 in
    rw (row_5 α β a b N e g1 g2 s v c k) (omega arith)

both_5_a : (T X J : ℤ) (v c d k D : ℕ)
    → (T *ℤ pos (d * k) -ℤ J *ℤ pos (v * D * c)) *ℤ pos c ≡ (pos d *ℤ (T *ℤ pos c) -ℤ X *ℤ pos D) *ℤ pos k +ℤ (X *ℤ pos k -ℤ J *ℤ pos (v * c * c)) *ℤ pos D
both_5_a T X J v c d k D = rw (as_val T, as_val X, as_val J) (simp vals (val-same _ _ _ _ (omega arith)))

-- q for the radii times the changes, q' for what the roundings add
both_5 : (T X J : ℤ) (v c d k D q q' : ℕ) → 0 < c
    → k * unsigned_abs (pos d *ℤ (T *ℤ pos c) -ℤ X *ℤ pos D) ≤ q * (v * c * c * D)
    → unsigned_abs (X *ℤ pos k -ℤ J *ℤ pos (v * c * c)) ≤ v * c * c * q'
    → unsigned_abs (T *ℤ pos (d * k) -ℤ J *ℤ pos (v * D * c)) ≤ (q + q') * (v * D * c)
both_5 T X J v c d k D q q' c_pos h1 h2 =
    let w : ℤ = T *ℤ pos (d * k) -ℤ J *ℤ pos (v * D * c) in
    let x : ℤ = pos d *ℤ (T *ℤ pos c) -ℤ X *ℤ pos D in
    let y : ℤ = X *ℤ pos k -ℤ J *ℤ pos (v * c * c) in
    let e = ap unsigned_abs (both_5_a T X J v c d k D) in
    let f = abs_add (x *ℤ pos k) (y *ℤ pos D) in
    let f1 = unsigned_abs-mul x (pos k) in
    let f2 = unsigned_abs-mul y (pos D) in
    let f3 = unsigned_abs-mul w (pos c) in
    let m2 = mul-le-mul_right D h2 in
    let g : unsigned_abs w * c ≤ (q + q') * (v * D * c) * c = omega arith in
    le_of_mul-le-mul_right g c_pos

-- times v: the fraction has v in both denominators
times_v_a : (T J : ℤ) (v c d k D : ℕ)
    → T *ℤ pos v *ℤ pos (d * k) -ℤ J *ℤ pos (v * D * (v * c)) ≡ (T *ℤ pos (d * k) -ℤ J *ℤ pos (v * D * c)) *ℤ pos v
times_v_a T J v c d k D = rw (as_val T, as_val J) (simp vals (val-same _ _ _ _ (omega arith)))

times_v : (T J : ℤ) (v c d k D q : ℕ) → unsigned_abs (T *ℤ pos (d * k) -ℤ J *ℤ pos (v * D * c)) ≤ q * (v * D * c)
    → unsigned_abs (T *ℤ pos v *ℤ pos (d * k) -ℤ J *ℤ pos (v * D * (v * c))) ≤ q * (v * D * (v * c))
times_v T J v c d k D q h =
    let e = unsigned_abs-mul (T *ℤ pos (d * k) -ℤ J *ℤ pos (v * D * c)) (pos v) in
    let m = mul-le-mul_right v h in
    rw (times_v_a T J v c d k D, e) (omega arith)

drop_zero : (N m l : ℤ) → m -ℤ pos 0 *ℤ l ≡ m -ℤ N *ℤ pos 0
drop_zero N m l = omega (arith, ints)

-- a slope within one unit of none
flat_fits : (s : ℤ) (v c k : ℕ) → unsigned_abs s ≤ 1
    → unsigned_abs (neg_ℤ (pos 0) *ℤ pos k -ℤ s *ℤ pos (v * c * c)) ≤ v * c * c
flat_fits s v c k h =
    let e : neg_ℤ (pos 0) *ℤ pos k -ℤ s *ℤ pos (v * c * c) ≡ neg_ℤ (s *ℤ pos (v * c * c)) = rw (as_val s) (simp vals (val-same _ _ _ _ (omega arith))) in
    let f : unsigned_abs (neg_ℤ (s *ℤ pos (v * c * c))) ≡ unsigned_abs (s *ℤ pos (v * c * c)) = omega (arith, ints) in
    let g = unsigned_abs-mul s (pos (v * c * c)) in
    let m = mul-le-mul_right (v * c * c) h in
    rw (e, f) (omega arith)

pub record Shifted (lo hi rm m d : ℕ) (z w : ℤ) : Type 0 where
  pub is_divisor : pos (clamp (non_negative z) (lo * d) (hi * d)) ≡ pos (clamp m lo hi) *ℤ pos d +ℤ w
  pub lies : Between w (z -ℤ pos d *ℤ pos m)
  pub size : unsigned_abs w ≤ d * rm
  pub room : d * max lo (clamp m lo hi - rm) ≤ clamp (non_negative z) (lo * d) (hi * d)

room_5 : (D c d w lo rm : ℕ) → c * d ≤ D + w → w ≤ d * rm → lo * d ≤ D → d * max lo (c - rm) ≤ D
room_5 D c d w lo rm h1 h2 h3 =
    elim (cases_lt lo (c - rm)) [
      | inl s ↦ let e : max lo (c - rm) ≡ c - rm = omega arith in
          let f : (c - rm) + rm ≡ c = omega arith in
          let f2 = ap (λ (m : ℕ). d * m) f in
          rw e (omega arith)
      | inr s ↦ let e : max lo (c - rm) ≡ lo = omega arith in rw e (omega arith)
    ]

shifted_by : (lo hi rm m d : ℕ) (z : ℤ) → lo ≤ hi → unsigned_abs (z -ℤ pos d *ℤ pos m) ≤ d * rm
    → (w : ℤ) × Shifted lo hi rm m d z w
shifted_by lo hi rm m d z lim hz =
    let c : ℕ = clamp m lo hi in
    let D : ℕ = clamp (non_negative z) (lo * d) (hi * d) in
    let w : ℤ = pos D -ℤ pos (c * d) in
    let lims : lo * d ≤ hi * d = mul-le-mul_right d lim in
    let turn : m * d ≡ d * m = omega arith in
    let bet : Between w (z -ℤ pos (d * m)) = subst (λ (k : ℕ). Between w (z -ℤ pos k)) turn (further w z (m * d) (divisor_between m lo hi d z lim)) in
    let small = le_trans (between_size w (z -ℤ pos (d * m)) bet) hz in
    let at_least : c * d ≤ D + unsigned_abs w = omega (arith, ints) in
    (w, record { is_divisor = rejoin (pos D) (pos (c * d)); lies = bet; size = small; room = room_5 D c d (unsigned_abs w) lo rm at_least small (omega arith) })

core_5 : (α β p q x y z : ℤ) (G v lo hi rm m d r' : ℕ) (w l J : ℤ) → 0 < v → 0 < lo → lo ≤ hi
    → unsigned_abs α + unsigned_abs β ≤ G → Shifted lo hi rm m d z w
    → (let a = x -ℤ pos d *ℤ p in
    let b = y -ℤ pos d *ℤ q in
    let e = z -ℤ pos d *ℤ pos m in
    let c = clamp m lo hi in
    let N = α *ℤ p +ℤ β *ℤ q in
    let M = α *ℤ a +ℤ β *ℤ b in
    let h = unsigned_abs a + unsigned_abs b in
    let D = clamp (non_negative z) (lo * d) (hi * d) in
    2 ^ 40 * (unsigned_abs N * unsigned_abs (l *ℤ pos D -ℤ w *ℤ pos (d * c))) ≤ r' * unsigned_abs e * (v * c * c * D)
    → unsigned_abs ((M *ℤ pos c -ℤ N *ℤ l) *ℤ pos (2 ^ 40) -ℤ J *ℤ pos (v * c * c)) ≤ v * c * c * (h + unsigned_abs e)
    → Near (minus (constant_current α β v lo hi x y z d) (constant_current α β v lo hi p q (pos m) 1)) J
    ((steady_radius_of G v lo c rm + 4) * h + (r' + 4) * unsigned_abs e) (d * 2 ^ 40))
core_5 α β p q x y z G v lo hi rm m d r' w l J v_pos lo_pos lim hG s hf hr =
    let k : ℕ = 2 ^ 40 in
    let a : ℤ = x -ℤ pos d *ℤ p in
    let b : ℤ = y -ℤ pos d *ℤ q in
    let e : ℤ = z -ℤ pos d *ℤ pos m in
    let c : ℕ = clamp m lo hi in
    let N : ℤ = α *ℤ p +ℤ β *ℤ q in
    let M : ℤ = α *ℤ a +ℤ β *ℤ b in
    let h : ℕ = unsigned_abs a + unsigned_abs b in
    let D : ℕ = clamp (non_negative z) (lo * d) (hi * d) in
    let n : ℕ = max lo (c - rm) in
    let g : ℕ = at_scale G (v * c) in
    let yy : ℕ = at_scale rm n in
    let r : ℕ = steady_radius_of G v lo c rm in
    let c_pos : 0 < c = omega arith in
    let n_pos : 0 < n = omega arith in
    let vc_pos : 0 < v * c = mul-pos v_pos c_pos in
    let hM0 : unsigned_abs M ≤ (unsigned_abs α + unsigned_abs β) * h =
    le_trans (abs_pair α β a b)
    (pair_by_sum (unsigned_abs α) (unsigned_abs β) (unsigned_abs a) (unsigned_abs b) h (omega arith) (omega arith)) in
    let hM : unsigned_abs M ≤ G * h = le_trans hM0 (mul-le-mul_right h hG) in
    let vp = voltage_part k G g v c rm yy n r h d D (unsigned_abs M) (unsigned_abs w) (lit< tt)
    (ceil_nat_covers (G * k) (v * c) vc_pos) (ceil_nat_covers (rm * k) n n_pos) (ceil_nat_covers (g * yy) k (lit< tt))
    hM s.size s.room in
    let T : ℤ = (pos d *ℤ N +ℤ M) *ℤ pos c -ℤ N *ℤ pos D in
    let X : ℤ = M *ℤ pos c -ℤ N *ℤ l in
    let f : ℤ = l *ℤ pos D -ℤ w *ℤ pos (d * c) in
    let one : k * unsigned_abs (pos d *ℤ (T *ℤ pos c) -ℤ X *ℤ pos D)
    ≤ (r * h + r' * unsigned_abs e) * (v * c * c * D) =
    rw (exact_5 N M l w c d D s.is_divisor) (parts_bound k r r' v c D h (unsigned_abs e) N M f w vp hf) in
    let two = both_5 T X J v c d k D (r * h + r' * unsigned_abs e) (h + unsigned_abs e) c_pos one hr in
    let three = times_v T J v c d k D (r * h + r' * unsigned_abs e + (h + unsigned_abs e)) two in
    let more = mul-le-mul_right (v * D * (v * c))
    (let o : r * h + r' * unsigned_abs e + (h + unsigned_abs e) ≤ (r + 4) * h + (r' + 4) * unsigned_abs e =
    omega arith in
    o) in
    let with_v : (pos d *ℤ N +ℤ M) *ℤ pos (v * c) -ℤ N *ℤ pos (v * D) ≡ T *ℤ pos v = rw (as_val N, as_val M) (simp vals (val-same _ _ _ _ (omega arith))) in
    let Ce : v * clamp m (lo * 1) (hi * 1) ≡ v * c = ap (λ (t : ℕ). v * t) (let o : clamp m (lo * 1) (hi * 1) ≡ c = omega arith in o) in
    near_by (constant_current α β v lo hi x y z d) (constant_current α β v lo hi p q (pos m) 1) J (pos d *ℤ N +ℤ M) N
    (v * D) (v * c) ((r + 4) * h + (r' + 4) * unsigned_abs e) (d * k) (top_is α β p q x y d) refl refl Ce
    (rw with_v (le_trans three more))

-- a rounded slope is at most one unit away
abbrev pub IsNearVoltage : ℤ → ℕ → ℕ → ℤ → Type 0
IsNearVoltage α v c S = unsigned_abs (α *ℤ pos (2 ^ 40) -ℤ S *ℤ pos (v * c)) ≤ 1 * (v * c)

abbrev pub IsNearMagnitude : ℤ → ℕ → ℕ → ℤ → Type 0
IsNearMagnitude N v c S = unsigned_abs (neg_ℤ N *ℤ pos (2 ^ 40) -ℤ S *ℤ pos (v * c * c)) ≤ 1 * (v * c * c)

-- the roundings of the row, with and without the slope of the magnitude
rounds_with : (α β a b e N g1 g2 s : ℤ) (v c : ℕ) → IsNearVoltage α v c g1 → IsNearVoltage β v c g2
    → IsNearMagnitude N v c s
    → unsigned_abs (((α *ℤ a +ℤ β *ℤ b) *ℤ pos c -ℤ N *ℤ e) *ℤ pos (2 ^ 40)
    -ℤ (g1 *ℤ a +ℤ g2 *ℤ b +ℤ s *ℤ e) *ℤ pos (v * c * c))
    ≤ v * c * c * (unsigned_abs a + unsigned_abs b + unsigned_abs e)
rounds_with α β a b e N g1 g2 s v c h1 h2 h3 =
    row_5_off α β a b N e g1 g2 s v c (2 ^ 40) (v * c * c) (round_voltage α g1 v c (2 ^ 40) h1) (round_voltage β g2 v c (2 ^ 40) h2) (omega arith)

rounds_without : (α β a b e N g1 g2 s : ℤ) (v c : ℕ) → IsNearVoltage α v c g1 → IsNearVoltage β v c g2
    → unsigned_abs s ≤ 1
    → unsigned_abs (((α *ℤ a +ℤ β *ℤ b) *ℤ pos c -ℤ N *ℤ pos 0) *ℤ pos (2 ^ 40)
    -ℤ (g1 *ℤ a +ℤ g2 *ℤ b +ℤ s *ℤ e) *ℤ pos (v * c * c))
    ≤ v * c * c * (unsigned_abs a + unsigned_abs b + unsigned_abs e)
rounds_without α β a b e N g1 g2 s v c h1 h2 h3 =
    let k : ℕ = 2 ^ 40 in
    let J : ℤ = g1 *ℤ a +ℤ g2 *ℤ b +ℤ s *ℤ e in
    let h = row_5_off α β a b (pos 0) e g1 g2 s v c k (v * c * c) (round_voltage α g1 v c k h1) (round_voltage β g2 v c k h2) (flat_fits s v c k h3) in
    subst (λ (m : ℤ). unsigned_abs (m *ℤ pos k -ℤ J *ℤ pos (v * c * c))
    ≤ v * c * c * (unsigned_abs a + unsigned_abs b + unsigned_abs e))
    (drop_zero N ((α *ℤ a +ℤ β *ℤ b) *ℤ pos c) e) h

abbrev pub CurrentRow : ℤ → ℤ → ℤ → ℤ → ℤ → ℤ → ℤ → ℕ → ℕ → ℕ → ℕ → ℕ → ℤ → ℤ → ℤ → ℕ → ℕ → Type 0
CurrentRow α β p q x y z v lo hi m d g1 g2 s r r' =
    Near (minus (constant_current α β v lo hi x y z d) (constant_current α β v lo hi p q (pos m) 1))
    (g1 *ℤ (x -ℤ pos d *ℤ p) +ℤ g2 *ℤ (y -ℤ pos d *ℤ q) +ℤ s *ℤ (z -ℤ pos d *ℤ pos m))
    ((r + 4) * (unsigned_abs (x -ℤ pos d *ℤ p) + unsigned_abs (y -ℤ pos d *ℤ q)) + (r' + 4) * unsigned_abs (z -ℤ pos d *ℤ pos m)) (d * 2 ^ 40)

size_N : (α β p q : ℤ) (G : ℕ) → unsigned_abs α + unsigned_abs β ≤ G
    → unsigned_abs (α *ℤ p +ℤ β *ℤ q) ≤ G * max (unsigned_abs p) (unsigned_abs q)
size_N α β p q G h =
    le_trans (le_trans (abs_pair α β p q) (pair_by_sum (unsigned_abs α) (unsigned_abs β) (unsigned_abs p)
    (unsigned_abs q) (max (unsigned_abs p) (unsigned_abs q)) (omega arith) (omega arith)))
    (mul-le-mul_right (max (unsigned_abs p) (unsigned_abs q)) h)

-- f where the box is inside
factored : (e : ℤ) (D k : ℕ) → e *ℤ pos D -ℤ e *ℤ pos k ≡ e *ℤ (pos D -ℤ pos k)
factored e D k = rw (as_val e) (simp (vals, pos_val) (val-same _ _ _ _ (omega arith)))

not_below : (z : ℤ) (g rm lo : ℕ) → lo + rm ≤ g → unsigned_abs (z -ℤ pos g) ≤ rm
    → (pos (non_negative z) ≡ z) × (lo ≤ non_negative z) × (non_negative z ≤ g + rm)
not_below (pos n) g rm lo h k = (refl, omega (arith, ints), omega (arith, ints))
not_below (negsuc n) g rm lo h k = absurd (omega (arith, ints))

inside_5 : (α β p q x y z g1 g2 s : ℤ) (G v lo hi rm m d : ℕ) → 0 < v → 0 < lo → unsigned_abs α + unsigned_abs β ≤ G
    → lo + rm ≤ m → m + rm ≤ hi → unsigned_abs (z -ℤ pos d *ℤ pos m) ≤ d * rm
    → IsNearVoltage α v (clamp m lo hi) g1 → IsNearVoltage β v (clamp m lo hi) g2
    → IsNearMagnitude (α *ℤ p +ℤ β *ℤ q) v (clamp m lo hi) s
    → CurrentRow α β p q x y z v lo hi m d g1 g2 s (steady_radius_of G v lo (clamp m lo hi) rm) (magnitude_inside_of G v lo (clamp m lo hi) p q rm)
inside_5 α β p q x y z g1 g2 s G v lo hi rm m d v_pos lo_pos hG low high hz h1 h2 h3 =
    let k : ℕ = 2 ^ 40 in
    let c : ℕ = clamp m lo hi in
    let e : ℤ = z -ℤ pos d *ℤ pos m in
    let lim : lo ≤ hi = omega arith in
    let c_is : c ≡ m = omega arith in
    let D : ℕ = clamp (non_negative z) (lo * d) (hi * d) in
    let N : ℤ = α *ℤ p +ℤ β *ℤ q in
    let A : ℕ = max (unsigned_abs p) (unsigned_abs q) in
    let n : ℕ = max lo (c - rm) in
    let g : ℕ = at_scale G (v * c) in
    let yy : ℕ = at_scale rm n in
    let zz : ℕ = at_scale A c in
    let xx : ℕ = ceil_nat (zz * yy) k in
    let c_pos : 0 < c = omega arith in
    let n_pos : 0 < n = omega arith in
    let vc_pos : 0 < v * c = mul-pos v_pos c_pos in
    let s1 = mul-le-mul_left d low in
    let s2 = mul-le-mul_left d high in
    let (z_is, z_low, z_high) = not_below z (d * m) (d * rm) (d * lo) (omega arith) hz in
    let D_is : D ≡ non_negative z = omega arith in
    let Dz : pos D ≡ z = ap pos D_is ∙ z_is in
    let (w, sh) = shifted_by lo hi rm m d z lim hz in
    let e_is : pos D -ℤ pos (d * c) ≡ e = ap (λ (t : ℤ). t -ℤ pos (d * c)) Dz ∙ ap (λ (t : ℕ). z -ℤ pos (d * t)) c_is in
    let back : pos (c * d) +ℤ w -ℤ pos (d * c) ≡ w = omega (arith, ints) in
    let w_is : w ≡ e = sym back ∙ ap (λ (t : ℤ). t -ℤ pos (d * c)) (sym sh.is_divisor) ∙ e_is in
    let f_is : e *ℤ pos D -ℤ w *ℤ pos (d * c) ≡ e *ℤ e =
    ap (λ (t : ℤ). e *ℤ pos D -ℤ t *ℤ pos (d * c)) w_is ∙ factored e D (d * c) ∙ ap (λ (t : ℤ). e *ℤ t) e_is in
    let f_size : unsigned_abs (e *ℤ pos D -ℤ w *ℤ pos (d * c)) ≤ unsigned_abs e * (d * rm) =
    rw (f_is, unsigned_abs-mul e e) (mul-le-mul_left (unsigned_abs e) hz) in
    let hf = magnitude_inside k G g v c A zz rm yy n xx (magnitude_inside_of G v lo c p q rm) (unsigned_abs e) d D
    (unsigned_abs N) (unsigned_abs (e *ℤ pos D -ℤ w *ℤ pos (d * c))) (lit< tt)
    (ceil_nat_covers (G * k) (v * c) vc_pos) (ceil_nat_covers (A * k) c c_pos) (ceil_nat_covers (rm * k) n n_pos)
    (ceil_nat_covers (zz * yy) k (lit< tt)) (ceil_nat_covers (g * xx) k (lit< tt)) (size_N α β p q G hG) f_size
    sh.room in
    core_5 α β p q x y z G v lo hi rm m d (magnitude_inside_of G v lo c p q rm) w e _ v_pos lo_pos lim hG sh hf
    (rounds_with α β (x -ℤ pos d *ℤ p) (y -ℤ pos d *ℤ q) e N g1 g2 s v c h1 h2 h3)

apart_size : (a b : ℕ) → unsigned_abs (pos a -ℤ pos b) ≤ max a b
apart_size a b = omega (arith, ints)

at_end : (e n c D d : ℕ) → n ≤ c → d * n ≤ D → n * (e * max D (d * c)) ≤ e * (c * D)
at_end e n c D d h1 h2 =
    elim (cases_lt D (d * c)) [
      | inl s ↦ let o : max D (d * c) ≡ d * c = omega arith in let m = mul-le-mul_left (e * c) h2 in rw o (omega arith)
      | inr s ↦ let o : max D (d * c) ≡ D = omega arith in let m = mul-le-mul_left (e * D) h1 in rw o (omega arith)
    ]

f_with : (e w : ℤ) (n c D d : ℕ) → Between w e → n ≤ c → d * n ≤ D
    → n * unsigned_abs (e *ℤ pos D -ℤ w *ℤ pos (d * c)) ≤ unsigned_abs e * (c * D)
f_with e w n c D d bet h1 h2 =
    max_of n _ _ _ _ (between_abs (e *ℤ pos D) (w *ℤ pos (d * c)) (e *ℤ pos (d * c)) (between_times w e (d * c) bet))
    (let a = unsigned_abs-mul e (pos D) in let m = mul-le-mul_right (unsigned_abs e * D) h1 in rw a (omega arith))
    (let a = mul-le-mul_left n (mul-le-mul_left (unsigned_abs e) (apart_size D (d * c))) in
    rw (factored e D (d * c), unsigned_abs-mul e (pos D -ℤ pos (d * c)))
    (le_trans a (at_end (unsigned_abs e) n c D d h1 h2)))

f_without : (e w : ℤ) (n c D d : ℕ) → unsigned_abs w ≤ unsigned_abs e → d * n ≤ D
    → n * unsigned_abs (pos 0 *ℤ pos D -ℤ w *ℤ pos (d * c)) ≤ unsigned_abs e * (c * D)
f_without e w n c D d h1 h2 =
    let o : unsigned_abs (pos 0 *ℤ pos D -ℤ w *ℤ pos (d * c)) ≡ unsigned_abs (w *ℤ pos (d * c)) = omega (arith, ints) in
    let m = mul-le-mul_left (n * (d * c)) h1 in
    let m2 = mul-le-mul_left (unsigned_abs e * c) h2 in
    rw (o, unsigned_abs-mul w (pos (d * c))) (omega arith)

-- across: with the slope of the magnitude, and without it
with_5 : (α β p q x y z g1 g2 s : ℤ) (G v lo hi rm m d : ℕ) → 0 < v → 0 < lo → lo ≤ hi
    → unsigned_abs α + unsigned_abs β ≤ G → unsigned_abs (z -ℤ pos d *ℤ pos m) ≤ d * rm
    → IsNearVoltage α v (clamp m lo hi) g1 → IsNearVoltage β v (clamp m lo hi) g2
    → IsNearMagnitude (α *ℤ p +ℤ β *ℤ q) v (clamp m lo hi) s
    → CurrentRow α β p q x y z v lo hi m d g1 g2 s (steady_radius_of G v lo (clamp m lo hi) rm) (magnitude_across_of G v lo (clamp m lo hi) p q rm)
with_5 α β p q x y z g1 g2 s G v lo hi rm m d v_pos lo_pos lim hG hz h1 h2 h3 =
    let k : ℕ = 2 ^ 40 in
    let c : ℕ = clamp m lo hi in
    let e : ℤ = z -ℤ pos d *ℤ pos m in
    let D : ℕ = clamp (non_negative z) (lo * d) (hi * d) in
    let N : ℤ = α *ℤ p +ℤ β *ℤ q in
    let A : ℕ = max (unsigned_abs p) (unsigned_abs q) in
    let n : ℕ = max lo (c - rm) in
    let g : ℕ = at_scale G (v * c) in
    let xx : ℕ = at_scale A n in
    let c_pos : 0 < c = omega arith in
    let n_pos : 0 < n = omega arith in
    let n_le : n ≤ c = omega arith in
    let (w, sh) = shifted_by lo hi rm m d z lim hz in
    let hf = magnitude_across k G g v c A n xx (magnitude_across_of G v lo c p q rm) (unsigned_abs e) D
    (unsigned_abs N) (unsigned_abs (e *ℤ pos D -ℤ w *ℤ pos (d * c))) (lit< tt) n_pos
    (ceil_nat_covers (G * k) (v * c) (mul-pos v_pos c_pos)) (ceil_nat_covers (A * k) n n_pos)
    (ceil_nat_covers (g * xx) k (lit< tt)) (size_N α β p q G hG) (f_with e w n c D d sh.lies n_le sh.room) in
    core_5 α β p q x y z G v lo hi rm m d (magnitude_across_of G v lo c p q rm) w e _ v_pos lo_pos lim hG sh hf
    (rounds_with α β (x -ℤ pos d *ℤ p) (y -ℤ pos d *ℤ q) e N g1 g2 s v c h1 h2 h3)

pub without_5 : (α β p q x y z g1 g2 s : ℤ) (G v lo hi rm m d : ℕ) → 0 < v → 0 < lo → lo ≤ hi
    → unsigned_abs α + unsigned_abs β ≤ G → unsigned_abs (z -ℤ pos d *ℤ pos m) ≤ d * rm
    → IsNearVoltage α v (clamp m lo hi) g1 → IsNearVoltage β v (clamp m lo hi) g2 → unsigned_abs s ≤ 1
    → CurrentRow α β p q x y z v lo hi m d g1 g2 s (steady_radius_of G v lo (clamp m lo hi) rm) (magnitude_across_of G v lo (clamp m lo hi) p q rm)
without_5 α β p q x y z g1 g2 s G v lo hi rm m d v_pos lo_pos lim hG hz h1 h2 h3 =
    let k : ℕ = 2 ^ 40 in
    let c : ℕ = clamp m lo hi in
    let e : ℤ = z -ℤ pos d *ℤ pos m in
    let D : ℕ = clamp (non_negative z) (lo * d) (hi * d) in
    let N : ℤ = α *ℤ p +ℤ β *ℤ q in
    let A : ℕ = max (unsigned_abs p) (unsigned_abs q) in
    let n : ℕ = max lo (c - rm) in
    let g : ℕ = at_scale G (v * c) in
    let xx : ℕ = at_scale A n in
    let c_pos : 0 < c = omega arith in
    let n_pos : 0 < n = omega arith in
    let (w, sh) = shifted_by lo hi rm m d z lim hz in
    let hf = magnitude_across k G g v c A n xx (magnitude_across_of G v lo c p q rm) (unsigned_abs e) D
    (unsigned_abs N) (unsigned_abs (pos 0 *ℤ pos D -ℤ w *ℤ pos (d * c))) (lit< tt) n_pos
    (ceil_nat_covers (G * k) (v * c) (mul-pos v_pos c_pos)) (ceil_nat_covers (A * k) n n_pos)
    (ceil_nat_covers (g * xx) k (lit< tt)) (size_N α β p q G hG)
    (f_without e w n c D d (between_size w e sh.lies) sh.room) in
    core_5 α β p q x y z G v lo hi rm m d (magnitude_across_of G v lo c p q rm) w (pos 0) _ v_pos lo_pos lim hG sh hf
    (rounds_without α β (x -ℤ pos d *ℤ p) (y -ℤ pos d *ℤ q) e N g1 g2 s v c h1 h2 h3)

-- outside
still_5 : (z : ℤ) (m lo hi rm d : ℕ) → lo ≤ hi → unsigned_abs (z -ℤ pos d *ℤ pos m) ≤ d * rm
    → (m + rm ≤ lo) ⊎ (hi + rm ≤ m)
    → clamp (non_negative z) (lo * d) (hi * d) ≡ clamp m lo hi * d
still_5 (pos n) m lo hi rm d lim hz (inl h) =
    let a = mul-le-mul_left d h in
    let b = mul-le-mul_left d lim in
    let o : clamp m lo hi ≡ lo = omega arith in
    rw o (omega (arith, ints))
still_5 (pos n) m lo hi rm d lim hz (inr h) =
    let a = mul-le-mul_left d h in
    let b = mul-le-mul_left d lim in
    let o : clamp m lo hi ≡ hi = omega arith in
    rw o (omega (arith, ints))
still_5 (negsuc n) m lo hi rm d lim hz (inl h) = let b = mul-le-mul_left d lim in let o : clamp m lo hi ≡ lo = omega arith in rw o (omega arith)
still_5 (negsuc n) m lo hi rm d lim hz (inr h) = let a = mul-le-mul_left d h in absurd (omega (arith, ints))

nothing_5 : (N M : ℤ) (c d : ℕ)
    → pos d *ℤ (((pos d *ℤ N +ℤ M) *ℤ pos c -ℤ N *ℤ pos (c * d)) *ℤ pos c) -ℤ (M *ℤ pos c -ℤ N *ℤ pos 0) *ℤ pos (c * d) ≡ pos 0
nothing_5 N M c d = rw (as_val N, as_val M) (simp vals (val-same _ _ _ _ (omega arith) ∙ sym (pos_val 0)))

pub outside_5 : (α β p q x y z g1 g2 s : ℤ) (v lo hi rm m d : ℕ) → 0 < v → 0 < lo → lo ≤ hi
    → unsigned_abs (z -ℤ pos d *ℤ pos m) ≤ d * rm → (m + rm ≤ lo) ⊎ (hi + rm ≤ m)
    → IsNearVoltage α v (clamp m lo hi) g1 → IsNearVoltage β v (clamp m lo hi) g2 → unsigned_abs s ≤ 1
    → CurrentRow α β p q x y z v lo hi m d g1 g2 s 0 0
outside_5 α β p q x y z g1 g2 s v lo hi rm m d v_pos lo_pos lim hz out h1 h2 h3 =
    let k : ℕ = 2 ^ 40 in
    let a : ℤ = x -ℤ pos d *ℤ p in
    let b : ℤ = y -ℤ pos d *ℤ q in
    let e : ℤ = z -ℤ pos d *ℤ pos m in
    let c : ℕ = clamp m lo hi in
    let c_pos : 0 < c = omega arith in
    let N : ℤ = α *ℤ p +ℤ β *ℤ q in
    let M : ℤ = α *ℤ a +ℤ β *ℤ b in
    let h : ℕ = unsigned_abs a + unsigned_abs b in
    let D : ℕ = clamp (non_negative z) (lo * d) (hi * d) in
    let D_is : D ≡ c * d = still_5 z m lo hi rm d lim hz out in
    let T : ℕ → ℤ = λ (j : ℕ). (pos d *ℤ N +ℤ M) *ℤ pos c -ℤ N *ℤ pos j in
    let J : ℤ = g1 *ℤ a +ℤ g2 *ℤ b +ℤ s *ℤ e in
    let z0 : pos d *ℤ (T D *ℤ pos c) -ℤ (M *ℤ pos c -ℤ N *ℤ pos 0) *ℤ pos D ≡ pos 0 =
    ap (λ (j : ℕ). pos d *ℤ (T j *ℤ pos c) -ℤ (M *ℤ pos c -ℤ N *ℤ pos 0) *ℤ pos j) D_is ∙ nothing_5 N M c d in
    let one : k * unsigned_abs (pos d *ℤ (T D *ℤ pos c) -ℤ (M *ℤ pos c -ℤ N *ℤ pos 0) *ℤ pos D) ≤ 0 * (v * c * c * D) = omega (arith, ap unsigned_abs z0) in
    let two = both_5 (T D) (M *ℤ pos c -ℤ N *ℤ pos 0) J v c d k D 0 (h + unsigned_abs e) c_pos one (rounds_without α β a b e N g1 g2 s v c h1 h2 h3) in
    let three = times_v (T D) J v c d k D (0 + (h + unsigned_abs e)) two in
    let more = mul-le-mul_right (v * D * (v * c)) (let o : 0 + (h + unsigned_abs e) ≤ (0 + 4) * h + (0 + 4) * unsigned_abs e = omega arith in o) in
    let with_v : (pos d *ℤ N +ℤ M) *ℤ pos (v * c) -ℤ N *ℤ pos (v * D) ≡ T D *ℤ pos v = rw (as_val N, as_val M) (simp vals (val-same _ _ _ _ (omega arith))) in
    let Ce : v * clamp m (lo * 1) (hi * 1) ≡ v * c = ap (λ (t : ℕ). v * t) (let o : clamp m (lo * 1) (hi * 1) ≡ c = omega arith in o) in
    near_by (constant_current α β v lo hi x y z d) (constant_current α β v lo hi p q (pos m) 1) J (pos d *ℤ N +ℤ M) N
    (v * D) (v * c) ((0 + 4) * h + (0 + 4) * unsigned_abs e) (d * k) (top_is α β p q x y d) refl refl Ce
    (rw with_v (le_trans three more))

-- ---- in every case

level_size : (s : ℤ) → Near level s 1 (2 ^ 40) → unsigned_abs s ≤ 1
level_size s h = omega (arith, ints)

-- a rounded slope in the magnitude, which is 0 where t says that the magnitude is clamped
abbrev pub IsRoundedMagnitude : Bool → ℤ → ℕ → ℕ → ℤ → Type 0
IsRoundedMagnitude t N v c s = Near (cond t (fraction (neg_ℤ N) (v * c * c)) level) s 1 (2 ^ 40)

abbrev pub voltage_radius_of : Bool → Bool → ℕ → ℕ → ℕ → ℕ → ℕ → ℕ
voltage_radius_of t1 t3 G v lo c rm = cond t1 (steady_radius_of G v lo c rm) (cond t3 0 (steady_radius_of G v lo c rm))

abbrev pub magnitude_radius_of : Bool → Bool → ℕ → ℕ → ℕ → ℕ → ℤ → ℤ → ℕ → ℕ
magnitude_radius_of t1 t3 G v lo c p q rm = cond t1 (magnitude_inside_of G v lo c p q rm) (cond t3 0 (magnitude_across_of G v lo c p q rm))

-- the magnitude at the centre is the natural m
pub current_by : (α β p q x y z g1 g2 s : ℤ) (G v lo hi rm m d : ℕ) (t1 t2 t3 : Bool)
    → stays_inside m rm lo hi ≡ t1 → lies_inside m lo hi ≡ t2 → stays_outside m rm lo hi ≡ t3
    → 0 < v → 0 < lo → lo ≤ hi → unsigned_abs α + unsigned_abs β ≤ G → unsigned_abs (z -ℤ pos d *ℤ pos m) ≤ d * rm
    → IsNearVoltage α v (clamp m lo hi) g1 → IsNearVoltage β v (clamp m lo hi) g2
    → IsRoundedMagnitude t2 (α *ℤ p +ℤ β *ℤ q) v (clamp m lo hi) s
    → CurrentRow α β p q x y z v lo hi m d g1 g2 s (voltage_radius_of t1 t3 G v lo (clamp m lo hi) rm) (magnitude_radius_of t1 t3 G v lo (clamp m lo hi) p q rm)
current_by α β p q x y z g1 g2 s G v lo hi rm m d true true t3 e1 e2 e3 v_pos lo_pos lim hG hz h1 h2 h3 =
    let f = inside_facts m rm lo hi e1 in
    inside_5 α β p q x y z g1 g2 s G v lo hi rm m d v_pos lo_pos hG f.0 f.1 hz h1 h2 h3
current_by α β p q x y z g1 g2 s G v lo hi rm m d true false t3 e1 e2 e3 v_pos lo_pos lim hG hz h1 h2 h3 =
    absurd (true_false _ (inside_lies m rm lo hi e1) e2)
current_by α β p q x y z g1 g2 s G v lo hi rm m d false true false e1 e2 e3 v_pos lo_pos lim hG hz h1 h2 h3 =
    with_5 α β p q x y z g1 g2 s G v lo hi rm m d v_pos lo_pos lim hG hz h1 h2 h3
current_by α β p q x y z g1 g2 s G v lo hi rm m d false true true e1 e2 e3 v_pos lo_pos lim hG hz h1 h2 h3 =
    absurd (true_false _ (both_ways m rm lo hi e2 e3) e1)
current_by α β p q x y z g1 g2 s G v lo hi rm m d false false false e1 e2 e3 v_pos lo_pos lim hG hz h1 h2 h3 =
    without_5 α β p q x y z g1 g2 s G v lo hi rm m d v_pos lo_pos lim hG hz h1 h2 (level_size s h3)
current_by α β p q x y z g1 g2 s G v lo hi rm m d false false true e1 e2 e3 v_pos lo_pos lim hG hz h1 h2 h3 =
    outside_5 α β p q x y z g1 g2 s v lo hi rm m d v_pos lo_pos lim hz (outside_facts m rm lo hi e3) h1 h2 (level_size s h3)
