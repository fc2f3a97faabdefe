-- The change of the row of a magnitude.
use Rattle.std.proofs.Common.{◌≡◌, ℕ, ◌+◌, ◌*◌, ◌<◌, ◌≤◌, ◌^◌, ℤ, pos, ◌+ℤ◌, ◌-ℤ◌, ◌*ℤ◌, neg_ℤ, arith, refl, ap}
use Rattle.std.specs.Int.RustNames.{unsigned_abs}
use Rattle.std.proofs.Math.Nat.{mul-le-mul_left, mul-le-mul_right}
use Rattle.std.proofs.lemmas.Int.{ints, unsigned_abs-mul}
use Rattle.fd_load.specs.fd_exact.Fractions.{Near, minus}
use Rattle.fd_load.specs.fd_exact.Integers.{abs_add, as_val, vals, val-same}
use Rattle.fd_load.specs.fd_exact.Quotients.{ceil_nat_covers}
use Rattle.fd_load.specs.fd_system.Loads.{magnitude_row}
use Rattle.fd_slope.specs.Radii.{at_scale}
use Rattle.fd_slope.proofs.Quotients.{abs_of_three, near_by, rejoin}

-- one square: m at the centre, e the change, s the rounded slope
one_square_a : (m e s : ℤ) (d v k : ℕ)
    → ((pos d *ℤ m +ℤ e) *ℤ (pos d *ℤ m +ℤ e) -ℤ m *ℤ m *ℤ pos (d * d)) *ℤ pos k -ℤ s *ℤ e *ℤ pos (d * v)
    ≡ e *ℤ e *ℤ pos k +ℤ (pos 2 *ℤ m *ℤ pos k -ℤ s *ℤ pos v) *ℤ e *ℤ pos d
one_square_a m e s d v k = rw (as_val m, as_val e, as_val s) (simp vals (val-same _ _ _ _ (omega arith)))

one_square : (m e s : ℤ) (d v k r y : ℕ) → unsigned_abs (pos 2 *ℤ m *ℤ pos k -ℤ s *ℤ pos v) ≤ 1 * v
    → unsigned_abs e ≤ d * r → r * k ≤ y * v
    → unsigned_abs (((pos d *ℤ m +ℤ e) *ℤ (pos d *ℤ m +ℤ e) -ℤ m *ℤ m *ℤ pos (d * d)) *ℤ pos k -ℤ s *ℤ e *ℤ pos (d * v)) ≤ (y + 4) * unsigned_abs e * (d * v)
one_square m e s d v k r y hs he hr =
    let t : ℤ = pos 2 *ℤ m *ℤ pos k -ℤ s *ℤ pos v in
    let a = abs_add (e *ℤ e *ℤ pos k) (t *ℤ e *ℤ pos d) in
    let a1 = abs_of_three e e (pos k) in
    let a2 = abs_of_three t e (pos d) in
    let m1 = mul-le-mul_left (unsigned_abs e * k) he in
    let m2 = mul-le-mul_left (unsigned_abs e * d) hr in
    let m3 = mul-le-mul_right (unsigned_abs e * d) hs in
    rw (one_square_a m e s d v k) (omega arith)

-- sb and sc are the slopes in p and in q, which are below 0 where these are above
three_a : (A B C a b c sa sb sc : ℤ) (v d k : ℕ)
    → ((A -ℤ B -ℤ C) *ℤ pos v -ℤ (a -ℤ b -ℤ c) *ℤ pos (v * (d * d))) *ℤ pos (d * k)
    -ℤ (sb +ℤ sc +ℤ sa) *ℤ pos (v * (d * d) * v)
    ≡ (((A -ℤ a *ℤ pos (d * d)) *ℤ pos k -ℤ sa *ℤ pos (d * v)) -ℤ ((B -ℤ b *ℤ pos (d * d)) *ℤ pos k
    -ℤ neg_ℤ sb *ℤ pos (d * v)) -ℤ ((C -ℤ c *ℤ pos (d * d)) *ℤ pos k -ℤ neg_ℤ sc *ℤ pos (d * v))) *ℤ pos (v * d)
three_a A B C a b c sa sb sc v d k =
    rw (as_val A, as_val B, as_val C, as_val a, as_val b, as_val c, as_val sa, as_val sb, as_val sc)
    (simp vals (val-same _ _ _ _ (omega arith)))

abs_three : (x y z : ℤ) → unsigned_abs (x -ℤ y -ℤ z) ≤ unsigned_abs x + unsigned_abs y + unsigned_abs z
abs_three x y z = omega (arith, ints)

square_again : (z m : ℤ) (d : ℕ) → z *ℤ z ≡ (pos d *ℤ m +ℤ (z -ℤ pos d *ℤ m)) *ℤ (pos d *ℤ m +ℤ (z -ℤ pos d *ℤ m))
square_again z m d = ap (λ (t : ℤ). t *ℤ t) (rejoin z (pos d *ℤ m))

-- a rounded slope s is at most one unit from 2 m / v
abbrev pub IsNearDouble : ℤ → ℕ → ℤ → Type 0
IsNearDouble m v s = unsigned_abs (pos 2 *ℤ m *ℤ pos (2 ^ 40) -ℤ s *ℤ pos v) ≤ 1 * v

-- and one in p or in q from - 2 p / v
abbrev pub IsNearOpposite : ℤ → ℕ → ℤ → Type 0
IsNearOpposite p v s = unsigned_abs (neg_ℤ (pos 2 *ℤ p) *ℤ pos (2 ^ 40) -ℤ s *ℤ pos v) ≤ 1 * v

turned : (p s : ℤ) (v : ℕ) → IsNearOpposite p v s → IsNearDouble p v (neg_ℤ s)
turned p s v h =
    let e : pos 2 *ℤ p *ℤ pos (2 ^ 40) -ℤ neg_ℤ s *ℤ pos v
    ≡ neg_ℤ (neg_ℤ (pos 2 *ℤ p) *ℤ pos (2 ^ 40) -ℤ s *ℤ pos v) =
    rw (as_val p, as_val s) (simp vals (val-same _ _ _ _ (omega arith))) in
    let f : unsigned_abs (neg_ℤ (neg_ℤ (pos 2 *ℤ p) *ℤ pos (2 ^ 40) -ℤ s *ℤ pos v))
    ≡ unsigned_abs (neg_ℤ (pos 2 *ℤ p) *ℤ pos (2 ^ 40) -ℤ s *ℤ pos v) =
    omega (arith, ints) in
    rw (e, f) h

opposite_times : (s a : ℤ) → neg_ℤ s *ℤ a ≡ neg_ℤ (s *ℤ a)
opposite_times s a = rw (as_val s, as_val a) (simp vals (val-same _ _ _ _ (omega arith)))

pub magnitude_follows : (p q m x y z s1 s2 s3 : ℤ) (v rp rq rm d : ℕ) → 0 < v
    → unsigned_abs (x -ℤ pos d *ℤ p) ≤ d * rp → unsigned_abs (y -ℤ pos d *ℤ q) ≤ d * rq
    → unsigned_abs (z -ℤ pos d *ℤ m) ≤ d * rm → IsNearOpposite p v s1 → IsNearOpposite q v s2 → IsNearDouble m v s3
    → Near (minus (magnitude_row v x y z d) (magnitude_row v p q m 1))
    (s1 *ℤ (x -ℤ pos d *ℤ p) +ℤ s2 *ℤ (y -ℤ pos d *ℤ q) +ℤ s3 *ℤ (z -ℤ pos d *ℤ m))
    ((at_scale rp v + 4) * unsigned_abs (x -ℤ pos d *ℤ p)
    + (at_scale rq v + 4) * unsigned_abs (y -ℤ pos d *ℤ q) + (at_scale rm v + 4) * unsigned_abs (z -ℤ pos d *ℤ m))
    (d * 2 ^ 40)
magnitude_follows p q m x y z s1 s2 s3 v rp rq rm d v_pos hx hy hz g1 g2 g3 =
    let k : ℕ = 2 ^ 40 in
    let a : ℤ = x -ℤ pos d *ℤ p in
    let b : ℤ = y -ℤ pos d *ℤ q in
    let e : ℤ = z -ℤ pos d *ℤ m in
    let A : ℤ = (pos d *ℤ m +ℤ e) *ℤ (pos d *ℤ m +ℤ e) in
    let B : ℤ = (pos d *ℤ p +ℤ a) *ℤ (pos d *ℤ p +ℤ a) in
    let C : ℤ = (pos d *ℤ q +ℤ b) *ℤ (pos d *ℤ q +ℤ b) in
    let u1 : ℤ = (A -ℤ m *ℤ m *ℤ pos (d * d)) *ℤ pos k -ℤ s3 *ℤ e *ℤ pos (d * v) in
    let u2 : ℤ = (B -ℤ p *ℤ p *ℤ pos (d * d)) *ℤ pos k -ℤ neg_ℤ (s1 *ℤ a) *ℤ pos (d * v) in
    let u3 : ℤ = (C -ℤ q *ℤ q *ℤ pos (d * d)) *ℤ pos k -ℤ neg_ℤ (s2 *ℤ b) *ℤ pos (d * v) in
    let h1 : unsigned_abs u1 ≤ (at_scale rm v + 4) * unsigned_abs e * (d * v) =
    one_square m e s3 d v k rm (at_scale rm v) g3 hz (ceil_nat_covers (rm * k) v v_pos) in
    let h2 : unsigned_abs u2 ≤ (at_scale rp v + 4) * unsigned_abs a * (d * v) =
    rw (← opposite_times s1 a)
    (one_square p a (neg_ℤ s1) d v k rp (at_scale rp v) (turned p s1 v g1) hx (ceil_nat_covers (rp * k) v v_pos)) in
    let h3 : unsigned_abs u3 ≤ (at_scale rq v + 4) * unsigned_abs b * (d * v) =
    rw (← opposite_times s2 b)
    (one_square q b (neg_ℤ s2) d v k rq (at_scale rq v) (turned q s2 v g2) hy (ceil_nat_covers (rq * k) v v_pos)) in
    let n : ℕ = (at_scale rp v + 4) * unsigned_abs a + (at_scale rq v + 4) * unsigned_abs b + (at_scale rm v + 4) * unsigned_abs e in
    let sum : unsigned_abs (u1 -ℤ u2 -ℤ u3) ≤ n * (d * v) = omega (arith, abs_three u1 u2 u3) in
    let scaled = mul-le-mul_right (v * d) sum in
    let J : ℤ = s1 *ℤ a +ℤ s2 *ℤ b +ℤ s3 *ℤ e in
    let top_x : z *ℤ z -ℤ x *ℤ x -ℤ y *ℤ y ≡ A -ℤ B -ℤ C = rw (square_again z m d, square_again x p d, square_again y q d) refl in
    let over_1 : v * (1 * 1) ≡ v = omega arith in
    near_by (magnitude_row v x y z d) (magnitude_row v p q m 1) J (A -ℤ B -ℤ C) (m *ℤ m -ℤ p *ℤ p -ℤ q *ℤ q) (v * (d * d)) v n (d * k)
    top_x refl refl over_1
    (rw (three_a A B C (m *ℤ m) (p *ℤ p) (q *ℤ q) (s3 *ℤ e) (s1 *ℤ a) (s2 *ℤ b) v d k, unsigned_abs-mul (u1 -ℤ u2 -ℤ u3) (pos (v * d))) (omega arith))
