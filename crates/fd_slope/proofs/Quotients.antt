-- How far the change of a clamped quotient is from its slopes: inequalities of whole numbers.
use Rattle.std.proofs.Common.{◌≡◌, ◌∙◌, ℕ, ◌+◌, ◌*◌, ◌<◌, ◌≤◌, max, ℤ, pos, negsuc, ◌+ℤ◌, ◌-ℤ◌, ◌*ℤ◌, arith, sym, refl, ap}
use Rattle.std.specs.Int.RustNames.{unsigned_abs}
use Rattle.std.proofs.Math.Nat.{mul-le-mul_left, mul-le-mul_right, le_of_mul-le-mul_right, le_trans, mul-pos, mul-le-mul}
use Rattle.std.proofs.lemmas.Int.{ints, unsigned_abs-mul}
use Rattle.fd_load.specs.fd_exact.Fractions.{Fraction, Near, minus}
use Rattle.fd_load.specs.fd_exact.Integers.{abs_add, abs_sub, as_val, vals, val-same}
use Rattle.fd_load.specs.fd_system.Loads.{clamp, square_of}
use Rattle.fd_slope.specs.Radii.{square_moves}

-- the radius of a slope where the box is inside the limits, as an inequality of naturals. k for 2^40
pub radius_inside : (k G g c E y n A s x1 z x2 r : ℕ) → 0 < k
    → G * k ≤ g * c → E * k ≤ y * n → A * s * k ≤ x1 * n → A * A * k ≤ z * c → 2 * z * y ≤ x2 * k
    → g * (y + (x1 + x2)) ≤ r * k
    → k * (G * (E * c + 2 * (A * A) * E + A * s * c)) ≤ r * (c * c * n)
radius_inside k G g c E y n A s x1 z x2 r k_pos h1 h2 h3 h4 h5 h6 =
    let a = mul-le-mul_right (c * k) h2 in
    let b = mul-le-mul_right (2 * E * k) h4 in
    let b2 = mul-le-mul_left (2 * z * c) h2 in
    let b3 = mul-le-mul_right (c * n) h5 in
    let d = mul-le-mul_right (c * k) h3 in
    let one : (E * c + 2 * (A * A) * E + A * s * c) * (k * k) ≤ (y + (x1 + x2)) * (n * c * k) = omega arith in
    let two = mul-le-mul h1 one in
    let three = mul-le-mul_right (c * (n * c * k)) h6 in
    let g4 : (k * (G * (E * c + 2 * (A * A) * E + A * s * c))) * (k * k) ≤ (r * (c * c * n)) * (k * k) = omega arith in
    le_of_mul-le-mul_right g4 (mul-pos k_pos k_pos)

pub change_a : (N M v : ℤ) (c d : ℕ)
    → (pos d *ℤ N +ℤ M) *ℤ pos d *ℤ pos c -ℤ N *ℤ (pos c *ℤ pos d *ℤ pos d +ℤ v) ≡ M *ℤ pos (d * c) -ℤ N *ℤ v
change_a N M v c d = rw (as_val N, as_val M, as_val v) (simp vals (val-same _ _ _ _ (omega arith)))

change_b : (N M l v : ℤ) (c d : ℕ)
    → pos d *ℤ ((M *ℤ pos (d * c) -ℤ N *ℤ v) *ℤ pos c) -ℤ (M *ℤ pos c -ℤ N *ℤ l) *ℤ (pos c *ℤ pos d *ℤ pos d +ℤ v)
    ≡ N *ℤ l *ℤ v -ℤ M *ℤ v *ℤ pos c -ℤ N *ℤ (v -ℤ pos d *ℤ l) *ℤ pos (d * c)
change_b N M l v c d = rw (as_val N, as_val M, as_val l, as_val v) (simp vals (val-same _ _ _ _ (omega arith)))

abs_three : (x y z : ℤ) → unsigned_abs (x -ℤ y -ℤ z) ≤ unsigned_abs x + unsigned_abs y + unsigned_abs z
abs_three x y z = omega (arith, ints)

pub abs_of_three : (a b c : ℤ) → unsigned_abs (a *ℤ b *ℤ c) ≡ unsigned_abs a * unsigned_abs b * unsigned_abs c
abs_of_three a b c = unsigned_abs-mul (a *ℤ b) c ∙ ap (λ n. n * unsigned_abs c) (unsigned_abs-mul a b)

products : (N M l v t c d G A E s h : ℕ) → M ≤ G * h → v ≤ d * d * E → N ≤ G * A → l ≤ 2 * A * h → t ≤ d * s * h
    → N * l * v + M * v * c + N * t * (d * c) ≤ d * d * h * (G * (E * c + 2 * (A * A) * E + A * s * c))
products N M l v t c d G A E s h hM hv hN hl ht =
    let a = mul-le-mul (mul-le-mul hN hl) hv in
    let b = mul-le-mul_right c (mul-le-mul hM hv) in
    let e = mul-le-mul_right (d * c) (mul-le-mul hN ht) in
    omega arith

pub change_bound : (k G g c E y n A s x1 z x2 r h d D : ℕ) (N M l v t : ℤ) → 0 < k
    → G * k ≤ g * c → E * k ≤ y * n → A * s * k ≤ x1 * n → A * A * k ≤ z * c → 2 * z * y ≤ x2 * k
    → g * (y + (x1 + x2)) ≤ r * k
    → unsigned_abs M ≤ G * h → unsigned_abs v ≤ d * d * E → unsigned_abs N ≤ G * A → unsigned_abs l ≤ 2 * A * h
    → unsigned_abs t ≤ d * s * h
    → d * d * n ≤ D
    → k * unsigned_abs (N *ℤ l *ℤ v -ℤ M *ℤ v *ℤ pos c -ℤ N *ℤ t *ℤ pos (d * c)) ≤ r * h * (c * c * D)
change_bound k G g c E y n A s x1 z x2 r h d D N M l v t k_pos h1 h2 h3 h4 h5 h6 hM hv hN hl ht hD =
    let a = abs_three (N *ℤ l *ℤ v) (M *ℤ v *ℤ pos c) (N *ℤ t *ℤ pos (d * c)) in
    let b = abs_of_three N l v in
    let b2 = abs_of_three M v (pos c) in
    let b3 = abs_of_three N t (pos (d * c)) in
    let e = products (unsigned_abs N) (unsigned_abs M) (unsigned_abs l) (unsigned_abs v) (unsigned_abs t) c d G A E s h hM hv hN hl ht in
    let f = radius_inside k G g c E y n A s x1 z x2 r k_pos h1 h2 h3 h4 h5 h6 in
    let f2 = mul-le-mul_left (d * d * h) f in
    let f3 = mul-le-mul_left (r * h * (c * c)) hD in
    let w : unsigned_abs (N *ℤ l *ℤ v -ℤ M *ℤ v *ℤ pos c -ℤ N *ℤ t *ℤ pos (d * c)) ≤ d * d * h * (G * (E * c + 2 * (A * A) * E + A * s * c)) = omega arith in
    let w2 = mul-le-mul_left k w in
    omega arith

row_a : (α β a b N p q S1 S2 : ℤ) (c k : ℕ)
    → ((α *ℤ a +ℤ β *ℤ b) *ℤ pos c -ℤ N *ℤ (pos 2 *ℤ p *ℤ a +ℤ pos 2 *ℤ q *ℤ b)) *ℤ pos k -ℤ (S1 *ℤ a +ℤ S2 *ℤ b) *ℤ pos (c * c)
    ≡ ((α *ℤ pos c -ℤ pos 2 *ℤ p *ℤ N) *ℤ pos k -ℤ S1 *ℤ pos (c * c)) *ℤ a +ℤ ((β *ℤ pos c -ℤ pos 2 *ℤ q *ℤ N) *ℤ pos k -ℤ S2 *ℤ pos (c * c)) *ℤ b
row_a α β a b N p q S1 S2 c k =
    rw (as_val α, as_val β, as_val a, as_val b, as_val N, as_val p, as_val q, as_val S1, as_val S2)
    (simp vals (val-same _ _ _ _ (omega arith)))

pub row_off : (α β a b N p q S1 S2 : ℤ) (c k m : ℕ)
    → unsigned_abs ((α *ℤ pos c -ℤ pos 2 *ℤ p *ℤ N) *ℤ pos k -ℤ S1 *ℤ pos (c * c)) ≤ m
    → unsigned_abs ((β *ℤ pos c -ℤ pos 2 *ℤ q *ℤ N) *ℤ pos k -ℤ S2 *ℤ pos (c * c)) ≤ m
    → unsigned_abs (((α *ℤ a +ℤ β *ℤ b) *ℤ pos c -ℤ N *ℤ (pos 2 *ℤ p *ℤ a +ℤ pos 2 *ℤ q *ℤ b)) *ℤ pos k
    -ℤ (S1 *ℤ a +ℤ S2 *ℤ b) *ℤ pos (c * c))
    ≤ m * (unsigned_abs a + unsigned_abs b)
row_off α β a b N p q S1 S2 c k m h1 h2 =
    let x : ℤ = (α *ℤ pos c -ℤ pos 2 *ℤ p *ℤ N) *ℤ pos k -ℤ S1 *ℤ pos (c * c) in
    let y : ℤ = (β *ℤ pos c -ℤ pos 2 *ℤ q *ℤ N) *ℤ pos k -ℤ S2 *ℤ pos (c * c) in
    let e = ap unsigned_abs (row_a α β a b N p q S1 S2 c k) in
    let f = abs_add (x *ℤ a) (y *ℤ b) in
    let f1 = unsigned_abs-mul x a in
    let f2 = unsigned_abs-mul y b in
    let m1 = mul-le-mul_right (unsigned_abs a) h1 in
    let m2 = mul-le-mul_right (unsigned_abs b) h2 in
    omega arith

-- the exact change and its rounded slopes: what is left, times c
both_a : (T X J : ℤ) (c d k D : ℕ)
    → (T *ℤ pos (d * k) -ℤ J *ℤ pos (D * c)) *ℤ pos c ≡ (pos d *ℤ (T *ℤ pos c) -ℤ X *ℤ pos D) *ℤ pos k +ℤ (X *ℤ pos k -ℤ J *ℤ pos (c * c)) *ℤ pos D
both_a T X J c d k D = rw (as_val T, as_val X, as_val J) (simp vals (val-same _ _ _ _ (omega arith)))

pub both : (T X J : ℤ) (c d k D r m h : ℕ) → 0 < c
    → k * unsigned_abs (pos d *ℤ (T *ℤ pos c) -ℤ X *ℤ pos D) ≤ r * h * (c * c * D)
    → unsigned_abs (X *ℤ pos k -ℤ J *ℤ pos (c * c)) ≤ m * (c * c) * h
    → unsigned_abs (T *ℤ pos (d * k) -ℤ J *ℤ pos (D * c)) ≤ (r + m) * h * (D * c)
both T X J c d k D r m h c_pos h1 h2 =
    let w : ℤ = T *ℤ pos (d * k) -ℤ J *ℤ pos (D * c) in
    let x : ℤ = pos d *ℤ (T *ℤ pos c) -ℤ X *ℤ pos D in
    let y : ℤ = X *ℤ pos k -ℤ J *ℤ pos (c * c) in
    let e = ap unsigned_abs (both_a T X J c d k D) in
    let f = abs_add (x *ℤ pos k) (y *ℤ pos D) in
    let f1 = unsigned_abs-mul x (pos k) in
    let f2 = unsigned_abs-mul y (pos D) in
    let f3 = unsigned_abs-mul w (pos c) in
    let m2 = mul-le-mul_right D h2 in
    let g : unsigned_abs w * c ≤ (r + m) * h * (D * c) * c = omega arith in
    le_of_mul-le-mul_right g c_pos

-- the exact part
pub exact : (N M l v : ℤ) (c d D : ℕ) → pos D ≡ pos c *ℤ pos d *ℤ pos d +ℤ v
    → pos d *ℤ (((pos d *ℤ N +ℤ M) *ℤ pos d *ℤ pos c -ℤ N *ℤ pos D) *ℤ pos c) -ℤ (M *ℤ pos c -ℤ N *ℤ l) *ℤ pos D
    ≡ N *ℤ l *ℤ v -ℤ M *ℤ v *ℤ pos c -ℤ N *ℤ (v -ℤ pos d *ℤ l) *ℤ pos (d * c)
exact N M l v c d D e = rw (e, change_a N M v c d) (change_b N M l v c d)

-- ---- the square of the voltage
self : (x : ℤ) → pos (unsigned_abs x * unsigned_abs x) ≡ x *ℤ x
self (pos n) = refl
self (negsuc n) = refl

square_is : (p q : ℤ) → pos (square_of p q) ≡ p *ℤ p +ℤ q *ℤ q
square_is p q = rw (← self p, ← self q) refl

moved_a : (p a : ℤ) (d : ℕ)
    → (pos d *ℤ p +ℤ a) *ℤ (pos d *ℤ p +ℤ a) ≡ p *ℤ p *ℤ pos d *ℤ pos d +ℤ (pos d *ℤ (pos 2 *ℤ p *ℤ a) +ℤ a *ℤ a)
moved_a p a d = rw (as_val p, as_val a) (simp vals (val-same _ _ _ _ (omega arith)))

moved_b : (s1 s2 l1 l2 t1 t2 : ℤ) (d : ℕ)
    → s1 *ℤ pos d *ℤ pos d +ℤ (pos d *ℤ l1 +ℤ t1) +ℤ (s2 *ℤ pos d *ℤ pos d +ℤ (pos d *ℤ l2 +ℤ t2))
    ≡ (s1 +ℤ s2) *ℤ pos d *ℤ pos d +ℤ (pos d *ℤ (l1 +ℤ l2) +ℤ (t1 +ℤ t2))
moved_b s1 s2 l1 l2 t1 t2 d = rw (as_val s1, as_val s2, as_val l1, as_val l2, as_val t1, as_val t2) (simp vals (val-same _ _ _ _ (omega arith)))

pub rejoin : (x y : ℤ) → x ≡ y +ℤ (x -ℤ y)
rejoin x y = omega (arith, ints)

pub square_moved : (p q a b : ℤ) (d : ℕ)
    → pos (square_of (pos d *ℤ p +ℤ a) (pos d *ℤ q +ℤ b))
    ≡ pos (square_of p q) *ℤ pos d *ℤ pos d +ℤ (pos d *ℤ (pos 2 *ℤ p *ℤ a +ℤ pos 2 *ℤ q *ℤ b) +ℤ (a *ℤ a +ℤ b *ℤ b))
square_moved p q a b d =
    rw (square_is (pos d *ℤ p +ℤ a) (pos d *ℤ q +ℤ b), moved_a p a d, moved_a q b d)
    (moved_b (p *ℤ p) (q *ℤ q) (pos 2 *ℤ p *ℤ a) (pos 2 *ℤ q *ℤ b) (a *ℤ a) (b *ℤ b) d)
    ∙ ap (λ (z : ℤ). z *ℤ pos d *ℤ pos d +ℤ (pos d *ℤ (pos 2 *ℤ p *ℤ a +ℤ pos 2 *ℤ q *ℤ b) +ℤ (a *ℤ a +ℤ b *ℤ b)))
    (sym (square_is p q))

pub abs_pair : (x y a b : ℤ)
    → unsigned_abs (x *ℤ a +ℤ y *ℤ b) ≤ unsigned_abs x * unsigned_abs a + unsigned_abs y * unsigned_abs b
abs_pair x y a b = omega (arith, abs_add (x *ℤ a) (y *ℤ b), unsigned_abs-mul x a, unsigned_abs-mul y b)

-- x a + y b is at most the sum of x and y, times a bound on a and b; and the other way round
pub pair_by_sum : (x y a b m : ℕ) → a ≤ m → b ≤ m → x * a + y * b ≤ (x + y) * m
pair_by_sum x y a b m h1 h2 = omega (arith, mul-le-mul_left x h1, mul-le-mul_left y h2)

pub pair_by_most : (x y a b m : ℕ) → x ≤ m → y ≤ m → x * a + y * b ≤ m * (a + b)
pair_by_most x y a b m h1 h2 = omega (arith, mul-le-mul_right a h1, mul-le-mul_right b h2)

-- l, t and v
pub double : (p : ℤ) → unsigned_abs (pos 2 *ℤ p) ≡ 2 * unsigned_abs p
double p = unsigned_abs-mul (pos 2) p

pub l_size : (p q a b : ℤ)
    → unsigned_abs (pos 2 *ℤ p *ℤ a +ℤ pos 2 *ℤ q *ℤ b) ≤ 2 * unsigned_abs p * unsigned_abs a + 2 * unsigned_abs q * unsigned_abs b
l_size p q a b = let h = abs_pair (pos 2 *ℤ p) (pos 2 *ℤ q) a b in rw (double p, double q) at h

pub v_natural : (p q a b d rp rq l t v : ℕ) → a ≤ d * rp → b ≤ d * rq → l ≤ 2 * p * a + 2 * q * b → t ≤ a * a + b * b
    → v ≤ d * l + t
    → v ≤ d * d * ((2 * p + rp) * rp + (2 * q + rq) * rq)
v_natural p q a b d rp rq l t v ha hb hl ht hv =
    let m1 = mul-le-mul_left d hl in
    let m2 = mul-le-mul_left (2 * d * p) ha in
    let m3 = mul-le-mul_left (2 * d * q) hb in
    let m4 = mul-le-mul ha ha in
    let m5 = mul-le-mul hb hb in
    omega arith

pub v_size : (d : ℕ) (l t : ℤ) → unsigned_abs (pos d *ℤ l +ℤ t) ≤ d * unsigned_abs l + unsigned_abs t
v_size d l t = omega (arith, abs_add (pos d *ℤ l) t, unsigned_abs-mul (pos d) l)

pub t_natural : (a b d rp rq : ℕ) → a ≤ d * rp → b ≤ d * rq → a * a + b * b ≤ d * max rp rq * (a + b)
t_natural a b d rp rq ha hb =
    let s : ℕ = max rp rq in
    let ra : rp ≤ s = omega arith in
    let rb : rq ≤ s = omega arith in
    pair_by_most a b a b (d * s) (le_trans ha (mul-le-mul_left d ra)) (le_trans hb (mul-le-mul_left d rb))

-- the square at the state is near the one at the centre
pub above : (D C v : ℤ) → D ≡ C +ℤ v → unsigned_abs D ≤ unsigned_abs C + unsigned_abs v
above D C v e = rw e (abs_add C v)

pub below : (D C v : ℤ) → D ≡ C +ℤ v → unsigned_abs C ≤ unsigned_abs D + unsigned_abs v
below D C v e = let f : C ≡ D -ℤ v = omega (arith, ints) in rw f (abs_sub D v)

pub near_by : (fx f0 : Fraction) (t x0 z0 : ℤ) (D c n b : ℕ) → fx.top ≡ x0 → f0.top ≡ z0 → fx.over ≡ D → f0.over ≡ c
    → unsigned_abs ((x0 *ℤ pos c -ℤ z0 *ℤ pos D) *ℤ pos b -ℤ t *ℤ pos (D * c)) ≤ n * (D * c) → Near (minus fx f0) t n b
near_by fx f0 t x0 z0 D c n b e1 e2 e3 e4 h = rw (e1, e2, e3, e4) h

pub top_is : (α β p q x y : ℤ) (d : ℕ)
    → α *ℤ x +ℤ β *ℤ y ≡ pos d *ℤ (α *ℤ p +ℤ β *ℤ q) +ℤ (α *ℤ (x -ℤ pos d *ℤ p) +ℤ β *ℤ (y -ℤ pos d *ℤ q))
top_is α β p q x y d = rw (as_val α, as_val β, as_val p, as_val q, as_val x, as_val y) (simp vals (val-same _ _ _ _ (omega arith)))

pub times_one : (z : ℤ) → z *ℤ pos 1 ≡ z
times_one z = omega (arith, ints)

pub clamped : (D lo hi : ℕ) → lo ≤ D → D ≤ hi → clamp D lo hi ≡ D
clamped D lo hi h1 h2 = omega arith

-- the square stays within the limits
pub stays : (p q a b : ℤ) (rp rq d : ℕ) → unsigned_abs a ≤ d * rp → unsigned_abs b ≤ d * rq
    → (square_of (pos d *ℤ p +ℤ a) (pos d *ℤ q +ℤ b) ≤ d * d * (square_of p q + square_moves p q rp rq))
    × (d * d * square_of p q ≤ square_of (pos d *ℤ p +ℤ a) (pos d *ℤ q +ℤ b) + d * d * square_moves p q rp rq)
stays p q a b rp rq d ha hb =
    let l : ℤ = pos 2 *ℤ p *ℤ a +ℤ pos 2 *ℤ q *ℤ b in
    let t : ℤ = a *ℤ a +ℤ b *ℤ b in
    let v : ℤ = pos d *ℤ l +ℤ t in
    let c : ℕ = square_of p q in
    let D : ℕ = square_of (pos d *ℤ p +ℤ a) (pos d *ℤ q +ℤ b) in
    let hv : unsigned_abs v ≤ d * d * square_moves p q rp rq =
    v_natural (unsigned_abs p) (unsigned_abs q) (unsigned_abs a) (unsigned_abs b) d rp rq (unsigned_abs l)
    (unsigned_abs t) (unsigned_abs v) ha hb (l_size p q a b) (abs_pair a b a b) (v_size d l t) in
    let moved = square_moved p q a b d in
    let m1 : D ≤ c * d * d + unsigned_abs v = above (pos D) (pos c *ℤ pos d *ℤ pos d) v moved in
    let m2 : c * d * d ≤ D + unsigned_abs v = below (pos D) (pos c *ℤ pos d *ℤ pos d) v moved in
    (omega arith, omega arith)
