-- The change of a current over the clamped square, where the box lies within the limits.
use Rattle.std.proofs.Common.{◌≡◌, ◌∙◌, ℕ, ◌+◌, ◌*◌, ◌-◌, ◌<◌, ◌≤◌, ◌^◌, max, ℤ, pos, ◌+ℤ◌, ◌-ℤ◌, ◌*ℤ◌, arith, ap, lit<}
use Rattle.std.specs.Int.RustNames.{unsigned_abs}
use Rattle.std.proofs.Math.Nat.{le_trans, mul-le-mul_left, mul-le-mul_right}
use Rattle.std.proofs.lemmas.Int.{ints}
use Rattle.fd_load.specs.fd_exact.Fractions.{Near, minus}
use Rattle.fd_load.specs.fd_exact.Quotients.{ceil_nat_covers}
use Rattle.fd_load.specs.fd_system.Loads.{constant_power, square_of}
use Rattle.fd_slope.specs.Radii.{at_scale, product_up, square_moves}
use Rattle.fd_slope.proofs.Quotients.{abs_pair, below, both, change_bound, clamped, exact, l_size, near_by, pair_by_most, pair_by_sum, rejoin, row_off, square_moved, stays, t_natural, times_one, top_is, v_natural, v_size}

-- the radius, with G for the sum of the powers' sizes, lo for the square of the lower limit, c for the square at the centre
abbrev pub radius_inside_of : ℕ → ℕ → ℕ → ℤ → ℤ → ℕ → ℕ → ℕ
radius_inside_of G lo c p q rp rq =
    let E = square_moves p q rp rq in
    let A = max (unsigned_abs p) (unsigned_abs q) in
    let n = max lo (c - E) in
    product_up (at_scale G c) (at_scale E n + (at_scale (A * max rp rq) n + product_up (2 * at_scale (A * A) c) (at_scale E n)))

-- a rounded slope S is at most two units from (α c - 2 v N) / c^2
abbrev pub IsNearSlope : ℤ → ℤ → ℤ → ℕ → ℤ → Type 0
IsNearSlope α v N c S = unsigned_abs ((α *ℤ pos c -ℤ pos 2 *ℤ v *ℤ N) *ℤ pos (2 ^ 40) -ℤ S *ℤ pos (c * c)) ≤ 2 * (c * c)

inside_core : (α β p q a b S1 S2 : ℤ) (G lo rp rq d D : ℕ) → 0 < d → 0 < lo → unsigned_abs α + unsigned_abs β ≤ G
    → lo + square_moves p q rp rq ≤ square_of p q
    → unsigned_abs a ≤ d * rp → unsigned_abs b ≤ d * rq
    → D ≡ square_of (pos d *ℤ p +ℤ a) (pos d *ℤ q +ℤ b)
    → (let c = square_of p q in let N = α *ℤ p +ℤ β *ℤ q in
    IsNearSlope α p N c S1 → IsNearSlope β q N c S2
    → unsigned_abs (((pos d *ℤ N +ℤ (α *ℤ a +ℤ β *ℤ b)) *ℤ pos d *ℤ pos c -ℤ N *ℤ pos D) *ℤ pos (d * 2 ^ 40) -ℤ (S1 *ℤ a +ℤ S2 *ℤ b) *ℤ pos (D * c))
    ≤ (radius_inside_of G lo c p q rp rq + 2) * (unsigned_abs a + unsigned_abs b) * (D * c))
inside_core α β p q a b S1 S2 G lo rp rq d D d_pos lo_pos hG inside ha hb eD col1 col2 =
    let k : ℕ = 2 ^ 40 in
    let c : ℕ = square_of p q in
    let N : ℤ = α *ℤ p +ℤ β *ℤ q in
    let M : ℤ = α *ℤ a +ℤ β *ℤ b in
    let l : ℤ = pos 2 *ℤ p *ℤ a +ℤ pos 2 *ℤ q *ℤ b in
    let t : ℤ = a *ℤ a +ℤ b *ℤ b in
    let v : ℤ = pos d *ℤ l +ℤ t in
    let E : ℕ = square_moves p q rp rq in
    let A : ℕ = max (unsigned_abs p) (unsigned_abs q) in
    let s : ℕ = max rp rq in
    let n : ℕ = max lo (c - E) in
    let g : ℕ = at_scale G c in
    let y : ℕ = at_scale E n in
    let x1 : ℕ = at_scale (A * s) n in
    let z : ℕ = at_scale (A * A) c in
    let x2 : ℕ = product_up (2 * z) y in
    let h : ℕ = unsigned_abs a + unsigned_abs b in
    let r : ℕ = radius_inside_of G lo c p q rp rq in
    let c_pos : 0 < c = omega arith in
    let n_pos : 0 < n = omega arith in
    let n_is : n + E ≡ c = omega arith in
    let moved : pos D ≡ pos c *ℤ pos d *ℤ pos d +ℤ v = ap pos eD ∙ square_moved p q a b d in
    let hM0 : unsigned_abs M ≤ (unsigned_abs α + unsigned_abs β) * h =
    le_trans (abs_pair α β a b)
    (pair_by_sum (unsigned_abs α) (unsigned_abs β) (unsigned_abs a) (unsigned_abs b) h (omega arith) (omega arith)) in
    let hM : unsigned_abs M ≤ G * h = le_trans hM0 (mul-le-mul_right h hG) in
    let hN0 : unsigned_abs N ≤ (unsigned_abs α + unsigned_abs β) * A =
    le_trans (abs_pair α β p q)
    (pair_by_sum (unsigned_abs α) (unsigned_abs β) (unsigned_abs p) (unsigned_abs q) A (omega arith) (omega arith)) in
    let hN : unsigned_abs N ≤ G * A = le_trans hN0 (mul-le-mul_right A hG) in
    let most : unsigned_abs p * unsigned_abs a + unsigned_abs q * unsigned_abs b ≤ A * h =
    pair_by_most (unsigned_abs p) (unsigned_abs q) (unsigned_abs a) (unsigned_abs b) A (omega arith) (omega arith) in
    let hl : unsigned_abs l ≤ 2 * A * h = omega (arith, l_size p q a b) in
    let ht : unsigned_abs t ≤ d * s * h = le_trans (abs_pair a b a b) (t_natural (unsigned_abs a) (unsigned_abs b) d rp rq ha hb) in
    let hv : unsigned_abs v ≤ d * d * E =
    v_natural (unsigned_abs p) (unsigned_abs q) (unsigned_abs a) (unsigned_abs b) d rp rq (unsigned_abs l)
    (unsigned_abs t) (unsigned_abs v) ha hb (l_size p q a b) (abs_pair a b a b) (v_size d l t) in
    let near_by : c * d * d ≤ D + unsigned_abs v = below (pos D) (pos c *ℤ pos d *ℤ pos d) v moved in
    let scaled = ap (λ (m : ℕ). d * d * m) n_is in
    let hD : d * d * n ≤ D = omega arith in
    let t_is : v -ℤ pos d *ℤ l ≡ t = omega (arith, ints) in
    let cb : k * unsigned_abs (N *ℤ l *ℤ v -ℤ M *ℤ v *ℤ pos c -ℤ N *ℤ t *ℤ pos (d * c)) ≤ r * h * (c * c * D) =
    change_bound k G g c E y n A s x1 z x2 r h d D N M l v t (lit< tt) (ceil_nat_covers (G * k) c c_pos)
    (ceil_nat_covers (E * k) n n_pos) (ceil_nat_covers (A * s * k) n n_pos) (ceil_nat_covers (A * A * k) c c_pos)
    (ceil_nat_covers (2 * z * y) k (lit< tt)) (ceil_nat_covers (g * (y + (x1 + x2))) k (lit< tt)) hM hv hN hl ht hD in
    let X : ℤ = M *ℤ pos c -ℤ N *ℤ l in
    let T : ℤ = (pos d *ℤ N +ℤ M) *ℤ pos d *ℤ pos c -ℤ N *ℤ pos D in
    let ex : pos d *ℤ (T *ℤ pos c) -ℤ X *ℤ pos D ≡ N *ℤ l *ℤ v -ℤ M *ℤ v *ℤ pos c -ℤ N *ℤ t *ℤ pos (d * c) =
    exact N M l v c d D moved ∙ ap (λ (m : ℤ). N *ℤ l *ℤ v -ℤ M *ℤ v *ℤ pos c -ℤ N *ℤ m *ℤ pos (d * c)) t_is in
    let one : k * unsigned_abs (pos d *ℤ (T *ℤ pos c) -ℤ X *ℤ pos D) ≤ r * h * (c * c * D) = rw ex cb in
    let two = row_off α β a b N p q S1 S2 c k (2 * (c * c)) col1 col2 in
    both T X (S1 *ℤ a +ℤ S2 *ℤ b) c d k D r 2 h c_pos one two

-- the change of the current, with four units more in the radius
abbrev pub PowerRow : ℤ → ℤ → ℤ → ℤ → ℤ → ℤ → ℕ → ℕ → ℕ → ℤ → ℤ → ℕ → Type 0
PowerRow α β p q x y lo hi d S1 S2 r =
    Near (minus (constant_power α β lo hi x y d) (constant_power α β lo hi p q 1)) (S1 *ℤ (x -ℤ pos d *ℤ p) +ℤ S2 *ℤ (y -ℤ pos d *ℤ q))
    ((r + 4) * (unsigned_abs (x -ℤ pos d *ℤ p) + unsigned_abs (y -ℤ pos d *ℤ q))) (d * 2 ^ 40)

pub power_inside : (α β p q x y S1 S2 : ℤ) (G lo hi rp rq d : ℕ) → 0 < d → 0 < lo → unsigned_abs α + unsigned_abs β ≤ G
    → lo + square_moves p q rp rq ≤ square_of p q → square_of p q + square_moves p q rp rq ≤ hi
    → unsigned_abs (x -ℤ pos d *ℤ p) ≤ d * rp → unsigned_abs (y -ℤ pos d *ℤ q) ≤ d * rq
    → IsNearSlope α p (α *ℤ p +ℤ β *ℤ q) (square_of p q) S1 → IsNearSlope β q (α *ℤ p +ℤ β *ℤ q) (square_of p q) S2
    → PowerRow α β p q x y lo hi d S1 S2 (radius_inside_of G lo (square_of p q) p q rp rq)
power_inside α β p q x y S1 S2 G lo hi rp rq d d_pos lo_pos hG low high ha hb col1 col2 =
    let a : ℤ = x -ℤ pos d *ℤ p in
    let b : ℤ = y -ℤ pos d *ℤ q in
    let c : ℕ = square_of p q in
    let N : ℤ = α *ℤ p +ℤ β *ℤ q in
    let M : ℤ = α *ℤ a +ℤ β *ℤ b in
    let D : ℕ = square_of x y in
    let xe : x ≡ pos d *ℤ p +ℤ a = rejoin x (pos d *ℤ p) in
    let ye : y ≡ pos d *ℤ q +ℤ b = rejoin y (pos d *ℤ q) in
    let De : D ≡ square_of (pos d *ℤ p +ℤ a) (pos d *ℤ q +ℤ b) = ap (λ (z : ℤ). square_of z y) xe ∙ ap (λ (z : ℤ). square_of (pos d *ℤ p +ℤ a) z) ye in
    let s = stays p q a b rp rq d ha hb in
    let s1 = mul-le-mul_left (d * d) low in
    let s2 = mul-le-mul_left (d * d) high in
    let k1 = clamped D (lo * (d * d)) (hi * (d * d)) (omega arith) (omega arith) in
    let k2 = clamped c (lo * (1 * 1)) (hi * (1 * 1)) (omega arith) (omega arith) in
    let core = inside_core α β p q a b S1 S2 G lo rp rq d D d_pos lo_pos hG low ha hb De col1 col2 in
    let r : ℕ = radius_inside_of G lo c p q rp rq in
    let more = mul-le-mul_right ((unsigned_abs a + unsigned_abs b) * (D * c)) (let o : r + 2 ≤ r + 4 = omega arith in o) in
    near_by (constant_power α β lo hi x y d) (constant_power α β lo hi p q 1) (S1 *ℤ a +ℤ S2 *ℤ b)
    ((pos d *ℤ N +ℤ M) *ℤ pos d) N D c ((r + 4) * (unsigned_abs a + unsigned_abs b)) (d * 2 ^ 40)
    (ap (λ (z : ℤ). z *ℤ pos d) (top_is α β p q x y d)) (times_one N) k1 k2 (omega arith)
