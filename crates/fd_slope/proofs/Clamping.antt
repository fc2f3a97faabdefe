-- Numbers brought between limits: how far they move, and quotients by them.
use Rattle.std.proofs.Common.{◌≡◌, ◌∙◌, ◌⊎◌, ℕ, suc, ◌+◌, ◌*◌, ◌-◌, ◌<◌, ◌≤◌, min, max, ℤ, pos, negsuc, ◌+ℤ◌, ◌-ℤ◌, ◌*ℤ◌, neg_ℤ, arith, refl, ap, inl, inr}
use Rattle.std.specs.Int.RustNames.{unsigned_abs}
use Rattle.std.proofs.Math.Nat.{mul-le-mul_left, mul-le-mul_right, le_of_mul-le-mul_right, le_trans, le_of_lt, mul-le-mul}
use Rattle.std.proofs.lemmas.Int.{ints, unsigned_abs-mul}
use Rattle.std.proofs.lemmas.Bool.{cases_lt}
use Rattle.fd_load.specs.fd_exact.Integers.{abs_add, abs_sub, as_val, vals, val-same}
use Rattle.fd_load.specs.fd_system.Loads.{clamp}
use Rattle.fd_slope.proofs.Quotients.{abs_of_three, abs_pair, double}

-- w lies between 0 and y
abbrev pub Between : ℤ → ℤ → Type 0
Between w y = (n : ℕ) × (m : ℕ) × (((w ≡ pos n) × (y ≡ pos (n + m))) ⊎ ((w ≡ neg_ℤ (pos n)) × (y ≡ neg_ℤ (pos (n + m)))))

pub between_abs : (x w y : ℤ) → Between w y → unsigned_abs (x -ℤ w) ≤ max (unsigned_abs x) (unsigned_abs (x -ℤ y))
between_abs x w y (n, m, inl (e, f)) = rw (e, f) (omega (arith, ints))
between_abs x w y (n, m, inr (e, f)) = rw (e, f) (omega (arith, ints))

pub between_size : (w y : ℤ) → Between w y → unsigned_abs w ≤ unsigned_abs y
between_size w y (n, m, inl (e, f)) = rw (e, f) (omega (arith, ints))
between_size w y (n, m, inr (e, f)) = rw (e, f) (omega (arith, ints))

scaled_max : (a b m : ℕ) → max a b * m ≡ max (a * m) (b * m)
scaled_max a b m = elim (cases_lt a b) [
  | inl h ↦ let e : max a b ≡ b = omega arith in let p = mul-le-mul_right m (le_of_lt h) in rw e (omega arith)
  | inr h ↦ let e : max a b ≡ a = omega arith in let p = mul-le-mul_right m h in rw e (omega arith)
]

scaled_min : (a b m : ℕ) → min a b * m ≡ min (a * m) (b * m)
scaled_min a b m = elim (cases_lt a b) [
  | inl h ↦ let e : min a b ≡ a = omega arith in let p = mul-le-mul_right m (le_of_lt h) in rw e (omega arith)
  | inr h ↦ let e : min a b ≡ b = omega arith in let p = mul-le-mul_right m h in rw e (omega arith)
]

pub scaled_clamp : (u lo hi m : ℕ) → clamp u lo hi * m ≡ clamp (u * m) (lo * m) (hi * m)
scaled_clamp u lo hi m = scaled_min (max u lo) hi m ∙ ap (λ (z : ℕ). min z (hi * m)) (scaled_max u lo m)

-- clamping two numbers leaves them in order, and brings them no further apart
clamp_up : (x y lo hi : ℕ) → lo ≤ hi → x ≤ y → (clamp x lo hi ≤ clamp y lo hi) × (clamp y lo hi + x ≤ clamp x lo hi + y)
clamp_up x y lo hi h k = (omega arith, omega arith)

pub clamp_between : (x y lo hi : ℕ) → lo ≤ hi → Between (pos (clamp y lo hi) -ℤ pos (clamp x lo hi)) (pos y -ℤ pos x)
clamp_between x y lo hi h =
    elim (cases_lt y x) [
      | inr s ↦ let c = clamp_up x y lo hi h s in
          (clamp y lo hi - clamp x lo hi, (y - x) - (clamp y lo hi - clamp x lo hi), inl (omega (arith, ints), omega (arith, ints)))
      | inl s ↦ let c = clamp_up y x lo hi h (le_of_lt s) in
          (clamp x lo hi - clamp y lo hi, (x - y) - (clamp x lo hi - clamp y lo hi), inr (omega (arith, ints), omega (arith, ints)))
    ]

-- two numbers of one sign, or of two
same_sign : (x z m n : ℕ) → unsigned_abs (pos x *ℤ pos m -ℤ pos z *ℤ pos n) ≤ max (x * m) (z * n)
same_sign x z m n = omega (arith, ints)

same_sign_neg : (x z m n : ℕ) → unsigned_abs (negsuc x *ℤ pos m -ℤ negsuc z *ℤ pos n) ≤ max (suc x * m) (suc z * n)
same_sign_neg x z m n = omega (arith, ints)

apart : (x z m n : ℕ) → unsigned_abs (pos x *ℤ pos m -ℤ negsuc z *ℤ pos n) ≤ x * m + suc z * n
apart x z m n = omega (arith, ints)

apart_neg : (x z m n : ℕ) → unsigned_abs (negsuc x *ℤ pos m -ℤ pos z *ℤ pos n) ≤ suc x * m + z * n
apart_neg x z m n = omega (arith, ints)

far : (x z d : ℕ) → unsigned_abs (negsuc z -ℤ pos d *ℤ pos x) ≡ suc z + d * x
far x z d = omega (arith, ints)

far_neg : (x z d : ℕ) → unsigned_abs (pos z -ℤ pos d *ℤ negsuc x) ≡ z + d * suc x
far_neg x z d = omega (arith, ints)

by_signs : (P Z : ℤ) (d m k : ℕ)
    → (unsigned_abs (P *ℤ pos m -ℤ Z *ℤ pos k) ≤ max (unsigned_abs P * m) (unsigned_abs Z * k))
    ⊎ ((unsigned_abs (P *ℤ pos m -ℤ Z *ℤ pos k) ≤ unsigned_abs P * m + unsigned_abs Z * k)
    × (unsigned_abs (Z -ℤ pos d *ℤ P) ≡ unsigned_abs Z + d * unsigned_abs P))
by_signs (pos x) (pos z) d m k = inl (same_sign x z m k)
by_signs (negsuc x) (negsuc z) d m k = inl (same_sign_neg x z m k)
by_signs (pos x) (negsuc z) d m k = inr (apart x z m k, far x z d)
by_signs (negsuc x) (pos z) d m k = inr (apart_neg x z m k, far_neg x z d)

same_case : (x P Z A2 W n c D d : ℕ) → x ≤ max (P * D) (Z * (d * c)) → P ≤ A2 → A2 ≤ W → Z ≤ d * W → d * d * n ≤ D
    → n ≤ c → n * x ≤ W * (c * D)
same_case x P Z A2 W n c D d h hP hA hZ hD hn =
    let a = mul-le-mul hn (mul-le-mul_right D (le_trans hP hA)) in
    let b = mul-le-mul_left (n * d * c) hZ in
    let b2 = mul-le-mul_left (W * c) hD in
    elim (cases_lt (P * D) (Z * (d * c))) [
      | inl s ↦ let e : x ≤ Z * (d * c) = omega arith in let f = mul-le-mul_left n e in omega arith
      | inr s ↦ let e : x ≤ P * D = omega arith in let f = mul-le-mul_left n e in omega arith
    ]

apart_case : (x P Z W s n c D d : ℕ) → 0 < d → x ≤ P * D + Z * (d * c) → Z + d * P ≤ d * s → s ≤ W → d * d * n ≤ D
    → n ≤ c → n * x ≤ W * (c * D)
apart_case x P Z W s n c D d d_pos h hs hW hD hn =
    let a = mul-le-mul_left (n * d) h in
    let b = mul-le-mul_left (d * P * D) hn in
    let b2 = mul-le-mul_left (Z * c) hD in
    let b3 = mul-le-mul_right (c * D) hs in
    let b4 = mul-le-mul_left (d * c * D) hW in
    let g : n * x * d ≤ W * (c * D) * d = omega arith in
    le_of_mul-le-mul_right g d_pos

less_itself : (d : ℕ) (P a : ℤ) → (pos d *ℤ P +ℤ a) -ℤ pos d *ℤ P ≡ a
less_itself d P a = omega (arith, ints)

pub column_straddle : (P a : ℤ) (A2 W s n c D d : ℕ) → 0 < d → unsigned_abs a ≤ d * s → unsigned_abs P ≤ A2 → A2 + s ≤ W
    → d * d * n ≤ D → n ≤ c
    → n * unsigned_abs (P *ℤ pos D -ℤ (pos d *ℤ P +ℤ a) *ℤ pos (d * c)) ≤ W * (c * D)
column_straddle P a A2 W s n c D d d_pos ha hP hW hD hn =
    let Z : ℤ = pos d *ℤ P +ℤ a in
    let hZ : unsigned_abs Z ≤ d * W = omega (arith, abs_add (pos d *ℤ P) a, unsigned_abs-mul (pos d) P, mul-le-mul_left d hP, mul-le-mul_left d hW) in
    elim (by_signs P Z d D (d * c)) [
      | inl h ↦ same_case (unsigned_abs (P *ℤ pos D -ℤ Z *ℤ pos (d * c))) (unsigned_abs P) (unsigned_abs Z) A2 W n c D d h hP (omega arith) hZ hD hn
      | inr (h, e) ↦
          apart_case (unsigned_abs (P *ℤ pos D -ℤ Z *ℤ pos (d * c))) (unsigned_abs P) (unsigned_abs Z) W s n c D d
          d_pos h (let f : unsigned_abs (Z -ℤ pos d *ℤ P) ≡ unsigned_abs a = ap unsigned_abs (less_itself d P a) in
          omega arith)
          (omega arith) hD hn
    ]

-- the radius
pub radius_straddle : (k G g c E y n B x r : ℕ) → 0 < k → G * k ≤ g * c → E * k ≤ y * n → B * k ≤ x * n
    → g * (y + x) ≤ r * k → k * (G * (E + B)) ≤ r * (c * n)
radius_straddle k G g c E y n B x r k_pos h1 h2 h3 h4 =
    let one : (E + B) * k ≤ (y + x) * n = omega arith in
    let two = mul-le-mul h1 one in
    let three = mul-le-mul_right (c * n) h4 in
    let g4 : k * (G * (E + B)) * k ≤ r * (c * n) * k = omega arith in
    le_of_mul-le-mul_right g4 k_pos

-- what is left where the slopes subtract, with w for the clamped change of the square
pub change_c : (N M l w : ℤ) (c d : ℕ)
    → pos d *ℤ ((M *ℤ pos (d * c) -ℤ N *ℤ w) *ℤ pos c) -ℤ (M *ℤ pos c -ℤ N *ℤ l) *ℤ (pos c *ℤ pos d *ℤ pos d +ℤ w)
    ≡ N *ℤ (l *ℤ (pos c *ℤ pos d *ℤ pos d +ℤ w) -ℤ w *ℤ pos (d * c)) -ℤ M *ℤ w *ℤ pos c
change_c N M l w c d = rw (as_val N, as_val M, as_val l, as_val w) (simp vals (val-same _ _ _ _ (omega arith)))

finish : (u n k h c D Q r : ℕ) → u * n ≤ h * (c * D) * Q → k * Q ≤ r * (c * n) → k * u * n ≤ r * h * (c * c * D) * n
finish u n k h c D Q r p q = let a = mul-le-mul_left k p in let b = mul-le-mul_left (h * (c * D)) q in omega arith

pub straddle_bound : (k G A W E n c D d h y x g r : ℕ) (N M f w : ℤ) → 0 < k → 0 < n
    → G * k ≤ g * c → E * k ≤ y * n → A * W * k ≤ x * n → g * (y + x) ≤ r * k
    → unsigned_abs M ≤ G * h → unsigned_abs N ≤ G * A → unsigned_abs w ≤ d * d * E → d * d * n ≤ D
    → n * unsigned_abs f ≤ W * h * (c * D)
    → k * unsigned_abs (N *ℤ f -ℤ M *ℤ w *ℤ pos c) ≤ r * h * (c * c * D)
straddle_bound k G A W E n c D d h y x g r N M f w k_pos n_pos h1 h2 h3 h4 hM hN hw hD hf =
    let a = abs_sub (N *ℤ f) (M *ℤ w *ℤ pos c) in
    let a2 = unsigned_abs-mul N f in
    let a3 = abs_of_three M w (pos c) in
    let a4 : unsigned_abs (N *ℤ f -ℤ M *ℤ w *ℤ pos c) ≤ unsigned_abs N * unsigned_abs f + unsigned_abs M * unsigned_abs w * c = omega arith in
    let a5 = mul-le-mul_right n a4 in
    let rad = radius_straddle k G g c E y n (A * W) x r k_pos h1 h2 h3 h4 in
    let b1 = mul-le-mul hN hf in
    let b2 = mul-le-mul_right (n * c) (mul-le-mul hM hw) in
    let b3 = mul-le-mul_left (G * h * E * c) hD in
    let t : unsigned_abs (N *ℤ f -ℤ M *ℤ w *ℤ pos c) * n ≤ h * (c * D) * (G * (E + A * W)) = omega arith in
    let g5 : k * unsigned_abs (N *ℤ f -ℤ M *ℤ w *ℤ pos c) * n ≤ r * h * (c * c * D) * n =
    finish (unsigned_abs (N *ℤ f -ℤ M *ℤ w *ℤ pos c)) n k h c D (G * (E + A * W)) r t rad in
    le_of_mul-le-mul_right g5 n_pos

pub between_times : (w y : ℤ) (k : ℕ) → Between w y → Between (w *ℤ pos k) (y *ℤ pos k)
between_times w y k (n, m, inl (e, f)) = (n * k, m * k, inl (rw e refl, rw f (ap pos (omega arith))))
between_times w y k (n, m, inr (e, f)) = (
  n * k,
  m * k,
  inr (rw e (simp vals (val-same _ _ _ _ (omega arith))), rw f (simp vals (val-same _ _ _ _ (omega arith)))),
)

cross : (p q a b : ℤ) (D d c : ℕ)
    → (pos 2 *ℤ p *ℤ a +ℤ pos 2 *ℤ q *ℤ b) *ℤ pos D -ℤ (pos d *ℤ (pos 2 *ℤ p *ℤ a +ℤ pos 2 *ℤ q *ℤ b) +ℤ (a *ℤ a +ℤ b *ℤ b)) *ℤ pos (d * c)
    ≡ (pos 2 *ℤ p *ℤ pos D -ℤ (pos d *ℤ (pos 2 *ℤ p) +ℤ a) *ℤ pos (d * c)) *ℤ a +ℤ (pos 2 *ℤ q *ℤ pos D -ℤ (pos d *ℤ (pos 2 *ℤ q) +ℤ b) *ℤ pos (d * c)) *ℤ b
cross p q a b D d c = rw (as_val p, as_val q, as_val a, as_val b) (simp vals (val-same _ _ _ _ (omega arith)))

pub cross_bound : (p q a b : ℤ) (A s n c D d : ℕ) → 0 < d → unsigned_abs a ≤ d * s → unsigned_abs b ≤ d * s
    → unsigned_abs p ≤ A → unsigned_abs q ≤ A → d * d * n ≤ D → n ≤ c
    → n * unsigned_abs ((pos 2 *ℤ p *ℤ a +ℤ pos 2 *ℤ q *ℤ b) *ℤ pos D
    -ℤ (pos d *ℤ (pos 2 *ℤ p *ℤ a +ℤ pos 2 *ℤ q *ℤ b) +ℤ (a *ℤ a +ℤ b *ℤ b)) *ℤ pos (d * c))
    ≤ (2 * A + s) * (unsigned_abs a + unsigned_abs b) * (c * D)
cross_bound p q a b A s n c D d d_pos ha hb hp hq hD hn =
    let x : ℤ = pos 2 *ℤ p *ℤ pos D -ℤ (pos d *ℤ (pos 2 *ℤ p) +ℤ a) *ℤ pos (d * c) in
    let y : ℤ = pos 2 *ℤ q *ℤ pos D -ℤ (pos d *ℤ (pos 2 *ℤ q) +ℤ b) *ℤ pos (d * c) in
    let hx = column_straddle (pos 2 *ℤ p) a (2 * A) (2 * A + s) s n c D d d_pos ha (omega (arith, double p)) (omega arith) hD hn in
    let hy = column_straddle (pos 2 *ℤ q) b (2 * A) (2 * A + s) s n c D d d_pos hb (omega (arith, double q)) (omega arith) hD hn in
    let e = ap unsigned_abs (cross p q a b D d c) in
    let f = mul-le-mul_left n (abs_pair x y a b) in
    let gx = mul-le-mul_right (unsigned_abs a) hx in
    let gy = mul-le-mul_right (unsigned_abs b) hy in
    rw e (omega arith)

pub max_of : (n x y z : ℕ) (m : ℕ) → x ≤ max y z → n * y ≤ m → n * z ≤ m → n * x ≤ m
max_of n x y z m h hy hz = elim (cases_lt y z) [
  | inl s ↦ let e : x ≤ z = omega arith in le_trans (mul-le-mul_left n e) hz
  | inr s ↦ let e : x ≤ y = omega arith in le_trans (mul-le-mul_left n e) hy
]

-- where the slopes subtract
pub across_f : (l v w : ℤ) (A s n c D d h : ℕ) → Between w v → unsigned_abs l ≤ 2 * A * h → n ≤ c
    → n * unsigned_abs (l *ℤ pos D -ℤ v *ℤ pos (d * c)) ≤ (2 * A + s) * h * (c * D)
    → n * unsigned_abs (l *ℤ pos D -ℤ w *ℤ pos (d * c)) ≤ (2 * A + s) * h * (c * D)
across_f l v w A s n c D d h bet hl hn hv =
    max_of n _ _ _ _ (between_abs (l *ℤ pos D) (w *ℤ pos (d * c)) (v *ℤ pos (d * c)) (between_times w v (d * c) bet))
    (let e = unsigned_abs-mul l (pos D) in let m = mul-le-mul hn (mul-le-mul_right D hl) in rw e (omega arith))
    hv

-- where they do not
pub flat_f : (w : ℤ) (W n c D d h : ℕ) → unsigned_abs w ≤ d * W * h → d * d * n ≤ D
    → n * unsigned_abs (pos 0 -ℤ w *ℤ pos (d * c)) ≤ W * h * (c * D)
flat_f w W n c D d h hw hD =
    let e : unsigned_abs (pos 0 -ℤ w *ℤ pos (d * c)) ≡ unsigned_abs (w *ℤ pos (d * c)) = omega (arith, ints) in
    let e2 = unsigned_abs-mul w (pos (d * c)) in
    let m = mul-le-mul_left (n * (d * c)) hw in
    let m2 = mul-le-mul_left (W * h * c) hD in
    rw (e, e2) (omega arith)

-- the change of the square, by the largest size of a part
pub v_linear : (p q a b d A s l t v h : ℕ) → p * a + q * b ≤ A * h → l ≤ 2 * p * a + 2 * q * b → t ≤ d * s * h
    → v ≤ d * l + t → v ≤ d * (2 * A + s) * h
v_linear p q a b d A s l t v h hm hl ht hv = let m = mul-le-mul_left d hl in let m2 = mul-le-mul_left (2 * d) hm in omega arith

pub zero_times : (z y : ℤ) → pos 0 *ℤ z -ℤ y ≡ pos 0 -ℤ y
zero_times z y = omega (arith, ints)

-- a slope that subtracts nothing
pub flat_off : (α p g : ℤ) (c k : ℕ) → unsigned_abs (α *ℤ pos k -ℤ g *ℤ pos c) ≤ 2 * c
    → unsigned_abs ((α *ℤ pos c -ℤ pos 2 *ℤ p *ℤ pos 0) *ℤ pos k -ℤ g *ℤ pos (c * c)) ≤ 2 * (c * c)
flat_off α p g c k h =
    let e : (α *ℤ pos c -ℤ pos 2 *ℤ p *ℤ pos 0) *ℤ pos k -ℤ g *ℤ pos (c * c) ≡ (α *ℤ pos k -ℤ g *ℤ pos c) *ℤ pos c =
    rw (as_val α, as_val p, as_val g) (simp vals (val-same _ _ _ _ (omega arith))) in
    let f2 = unsigned_abs-mul (α *ℤ pos k -ℤ g *ℤ pos c) (pos c) in
    let m = mul-le-mul_right c h in
    rw e (omega arith)
