-- The change of a current over the clamped square, where the box straddles a limit or lies outside of both.
use Rattle.std.proofs.Common.{◌≡◌, ◌∙◌, ◌⊎◌, ℕ, ◌+◌, ◌*◌, ◌-◌, ◌<◌, ◌≤◌, ◌^◌, max, ℤ, pos, ◌+ℤ◌, ◌-ℤ◌, ◌*ℤ◌, arith, sym, ap, inl, inr, lit<, subst}
use Rattle.std.specs.Int.RustNames.{unsigned_abs}
use Rattle.std.proofs.Math.Nat.{mul-le-mul_left, mul-le-mul_right, le_trans, mul_assoc}
use Rattle.std.proofs.lemmas.Int.{ints}
use Rattle.std.proofs.lemmas.Bool.{cases_lt}
use Rattle.fd_load.specs.fd_exact.Integers.{as_val, pos_val, vals, val-same}
use Rattle.fd_load.specs.fd_exact.Quotients.{ceil_nat_covers}
use Rattle.fd_load.specs.fd_system.Loads.{clamp, constant_power, square_of}
use Rattle.fd_slope.specs.Radii.{at_scale, product_up, square_moves}
use Rattle.fd_slope.proofs.Clamping.{Between, across_f, between_size, change_c, clamp_between, cross_bound, flat_f, flat_off, scaled_clamp, straddle_bound, v_linear, zero_times}
use Rattle.fd_slope.proofs.PowerInside.{IsNearSlope, PowerRow}
use Rattle.fd_slope.proofs.Quotients.{abs_pair, both, change_a, l_size, near_by, pair_by_most, pair_by_sum, rejoin, row_off, square_moved, stays, t_natural, times_one, top_is, v_natural, v_size}

-- the radius, with G for the sum of the powers' sizes, lo for the square of the lower limit, c for the clamped square at the centre
abbrev pub radius_across_of : ℕ → ℕ → ℕ → ℤ → ℤ → ℕ → ℕ → ℕ
radius_across_of G lo c p q rp rq =
    let E = square_moves p q rp rq in
    let A = max (unsigned_abs p) (unsigned_abs q) in
    let n = max lo (c - E) in
    product_up (at_scale G c) (at_scale E n + at_scale (A * (2 * A + max rp rq)) n)

-- what the change of the clamped square is
pub record Moved (p q a b : ℤ) (lo hi rp rq d : ℕ) (w : ℤ) : Type 0 where
  pub is_divisor : pos (clamp (square_of (pos d *ℤ p +ℤ a) (pos d *ℤ q +ℤ b)) (lo * (d * d)) (hi * (d * d)))
      ≡ pos (clamp (square_of p q) lo hi) *ℤ pos d *ℤ pos d +ℤ w
  pub lies : Between w (pos d *ℤ (pos 2 *ℤ p *ℤ a +ℤ pos 2 *ℤ q *ℤ b) +ℤ (a *ℤ a +ℤ b *ℤ b))
  pub size : unsigned_abs w ≤ d * d * square_moves p q rp rq
  pub size_linear : unsigned_abs w ≤ d * (2 * max (unsigned_abs p) (unsigned_abs q) + max rp rq) * (unsigned_abs a + unsigned_abs b)
  pub room : d * d * max lo (clamp (square_of p q) lo hi - square_moves p q rp rq)
      ≤ clamp (square_of (pos d *ℤ p +ℤ a) (pos d *ℤ q +ℤ b)) (lo * (d * d)) (hi * (d * d))

take_off : (x y z : ℤ) → x ≡ y +ℤ z → x -ℤ y ≡ z
take_off x y z e = omega (arith, ints)

room_natural : (D c d w lo E : ℕ) → c * (d * d) ≤ D + w → w ≤ d * d * E → lo * (d * d) ≤ D → d * d * max lo (c - E) ≤ D
room_natural D c d w lo E h1 h2 h3 =
    elim (cases_lt lo (c - E)) [
      | inl s ↦ let e : max lo (c - E) ≡ c - E = omega arith in
          let f : (c - E) + E ≡ c = omega arith in
          let f2 = ap (λ (m : ℕ). d * d * m) f in
          rw e (omega arith)
      | inr s ↦ let e : max lo (c - E) ≡ lo = omega arith in rw e (omega arith)
    ]

pub moved_by : (p q a b : ℤ) (lo hi rp rq d : ℕ) → 0 < d → lo ≤ hi → unsigned_abs a ≤ d * rp → unsigned_abs b ≤ d * rq
    → (w : ℤ) × Moved p q a b lo hi rp rq d w
moved_by p q a b lo hi rp rq d d_pos lim ha hb =
    let u : ℕ = square_of p q in
    let c : ℕ = clamp u lo hi in
    let U : ℕ = square_of (pos d *ℤ p +ℤ a) (pos d *ℤ q +ℤ b) in
    let D : ℕ = clamp U (lo * (d * d)) (hi * (d * d)) in
    let l : ℤ = pos 2 *ℤ p *ℤ a +ℤ pos 2 *ℤ q *ℤ b in
    let t : ℤ = a *ℤ a +ℤ b *ℤ b in
    let v : ℤ = pos d *ℤ l +ℤ t in
    let A : ℕ = max (unsigned_abs p) (unsigned_abs q) in
    let h : ℕ = unsigned_abs a + unsigned_abs b in
    let lims : lo * (d * d) ≤ hi * (d * d) = mul-le-mul_right (d * d) lim in
    let w : ℤ = pos D -ℤ pos (c * (d * d)) in
    let same : c * (d * d) ≡ clamp (u * (d * d)) (lo * (d * d)) (hi * (d * d)) = scaled_clamp u lo hi (d * d) in
    let whole : pos U ≡ pos (u * (d * d)) +ℤ v = square_moved p q a b d ∙ ap (λ (m : ℕ). pos m +ℤ v) (mul_assoc u d d) in
    let bet0 : Between (pos D -ℤ pos (clamp (u * (d * d)) (lo * (d * d)) (hi * (d * d))))
    (pos U -ℤ pos (u * (d * d))) =
    clamp_between (u * (d * d)) U (lo * (d * d)) (hi * (d * d)) lims in
    let bet : Between w v =
    subst (λ (m : ℕ). Between (pos D -ℤ pos m) v) (sym same)
    (subst (λ (m : ℤ). Between (pos D -ℤ pos (clamp (u * (d * d)) (lo * (d * d)) (hi * (d * d)))) m)
    (take_off (pos U) (pos (u * (d * d))) v whole) bet0) in
    let wv = between_size w v bet in
    let hv = v_natural (unsigned_abs p) (unsigned_abs q) (unsigned_abs a) (unsigned_abs b) d rp rq (unsigned_abs l)
    (unsigned_abs t) (unsigned_abs v) ha hb (l_size p q a b) (abs_pair a b a b) (v_size d l t) in
    let most : unsigned_abs p * unsigned_abs a + unsigned_abs q * unsigned_abs b ≤ A * h =
    pair_by_most (unsigned_abs p) (unsigned_abs q) (unsigned_abs a) (unsigned_abs b) A (omega arith) (omega arith) in
    let ht = le_trans (abs_pair a b a b) (t_natural (unsigned_abs a) (unsigned_abs b) d rp rq ha hb) in
    let hvl = v_linear (unsigned_abs p) (unsigned_abs q) (unsigned_abs a) (unsigned_abs b) d A (max rp rq)
    (unsigned_abs l) (unsigned_abs t) (unsigned_abs v) h most (l_size p q a b) ht (v_size d l t) in
    let at_least : c * (d * d) ≤ D + unsigned_abs w = omega (arith, ints) in (
      w,
      record {
        is_divisor = rejoin (pos D) (pos (c * (d * d))) ∙ ap (λ (m : ℕ). pos m +ℤ w) (sym (mul_assoc c d d));
        lies = bet;
        size = le_trans wv hv;
        size_linear = le_trans wv hvl;
        room = room_natural D c d (unsigned_abs w) lo (square_moves p q rp rq) at_least (le_trans wv hv) (omega arith);
      },
    )

exact_w : (N M l w : ℤ) (c d D : ℕ) → pos D ≡ pos c *ℤ pos d *ℤ pos d +ℤ w
    → pos d *ℤ (((pos d *ℤ N +ℤ M) *ℤ pos d *ℤ pos c -ℤ N *ℤ pos D) *ℤ pos c) -ℤ (M *ℤ pos c -ℤ N *ℤ l) *ℤ pos D
    ≡ N *ℤ (l *ℤ pos D -ℤ w *ℤ pos (d * c)) -ℤ M *ℤ w *ℤ pos c
exact_w N M l w c d D e = rw (e, change_a N M w c d) (change_c N M l w c d)

-- the change of a load's row, from what is known of the linear part and of the rounded slopes
across_core : (α β p q a b : ℤ) (G lo hi rp rq d : ℕ) (w l J : ℤ) → 0 < d → 0 < lo
    → unsigned_abs α + unsigned_abs β ≤ G → lo ≤ hi → Moved p q a b lo hi rp rq d w
    → (let u = square_of p q in
    let c = clamp u lo hi in
    let N = α *ℤ p +ℤ β *ℤ q in
    let M = α *ℤ a +ℤ β *ℤ b in
    let h = unsigned_abs a + unsigned_abs b in
    let D = clamp (square_of (pos d *ℤ p +ℤ a) (pos d *ℤ q +ℤ b)) (lo * (d * d)) (hi * (d * d)) in
    let A = max (unsigned_abs p) (unsigned_abs q) in
    let n = max lo (c - square_moves p q rp rq) in
    n * unsigned_abs (l *ℤ pos D -ℤ w *ℤ pos (d * c)) ≤ (2 * A + max rp rq) * h * (c * D)
    → unsigned_abs ((M *ℤ pos c -ℤ N *ℤ l) *ℤ pos (2 ^ 40) -ℤ J *ℤ pos (c * c)) ≤ 2 * (c * c) * h
    → unsigned_abs (((pos d *ℤ N +ℤ M) *ℤ pos d *ℤ pos c -ℤ N *ℤ pos D) *ℤ pos (d * 2 ^ 40) -ℤ J *ℤ pos (D * c))
    ≤ (radius_across_of G lo c p q rp rq + 2) * h * (D * c))
across_core α β p q a b G lo hi rp rq d w l J d_pos lo_pos hG lim m hf hr =
    let k : ℕ = 2 ^ 40 in
    let c : ℕ = clamp (square_of p q) lo hi in
    let N : ℤ = α *ℤ p +ℤ β *ℤ q in
    let M : ℤ = α *ℤ a +ℤ β *ℤ b in
    let E : ℕ = square_moves p q rp rq in
    let A : ℕ = max (unsigned_abs p) (unsigned_abs q) in
    let s : ℕ = max rp rq in
    let n : ℕ = max lo (c - E) in
    let g : ℕ = at_scale G c in
    let y : ℕ = at_scale E n in
    let x : ℕ = at_scale (A * (2 * A + s)) n in
    let h : ℕ = unsigned_abs a + unsigned_abs b in
    let D : ℕ = clamp (square_of (pos d *ℤ p +ℤ a) (pos d *ℤ q +ℤ b)) (lo * (d * d)) (hi * (d * d)) in
    let r : ℕ = radius_across_of G lo c p q rp rq in
    let c_pos : 0 < c = omega arith in
    let n_pos : 0 < n = omega arith in
    let hM0 : unsigned_abs M ≤ (unsigned_abs α + unsigned_abs β) * h =
    le_trans (abs_pair α β a b)
    (pair_by_sum (unsigned_abs α) (unsigned_abs β) (unsigned_abs a) (unsigned_abs b) h (omega arith) (omega arith)) in
    let hM : unsigned_abs M ≤ G * h = le_trans hM0 (mul-le-mul_right h hG) in
    let hN0 : unsigned_abs N ≤ (unsigned_abs α + unsigned_abs β) * A =
    le_trans (abs_pair α β p q)
    (pair_by_sum (unsigned_abs α) (unsigned_abs β) (unsigned_abs p) (unsigned_abs q) A (omega arith) (omega arith)) in
    let hN : unsigned_abs N ≤ G * A = le_trans hN0 (mul-le-mul_right A hG) in
    let sb = straddle_bound k G A (2 * A + s) E n c D d h y x g r N M (l *ℤ pos D -ℤ w *ℤ pos (d * c)) w
    (lit< tt) n_pos (ceil_nat_covers (G * k) c c_pos) (ceil_nat_covers (E * k) n n_pos)
    (ceil_nat_covers (A * (2 * A + s) * k) n n_pos) (ceil_nat_covers (g * (y + x)) k (lit< tt)) hM hN m.size m.room
    hf in
    let T : ℤ = (pos d *ℤ N +ℤ M) *ℤ pos d *ℤ pos c -ℤ N *ℤ pos D in
    let X : ℤ = M *ℤ pos c -ℤ N *ℤ l in
    let one : k * unsigned_abs (pos d *ℤ (T *ℤ pos c) -ℤ X *ℤ pos D) ≤ r * h * (c * c * D) = rw (exact_w N M l w c d D m.is_divisor) sb in
    both T X J c d k D r 2 h c_pos one hr

-- from the core to the row
wrap : (α β p q x y : ℤ) (lo hi d r : ℕ) (S1 S2 : ℤ) → 0 < d
    → (let a = x -ℤ pos d *ℤ p in
    let b = y -ℤ pos d *ℤ q in
    let u = square_of p q in
    let c = clamp u lo hi in
    let N = α *ℤ p +ℤ β *ℤ q in
    let M = α *ℤ a +ℤ β *ℤ b in
    let h = unsigned_abs a + unsigned_abs b in
    let D = clamp (square_of (pos d *ℤ p +ℤ a) (pos d *ℤ q +ℤ b)) (lo * (d * d)) (hi * (d * d)) in
    unsigned_abs (((pos d *ℤ N +ℤ M) *ℤ pos d *ℤ pos c -ℤ N *ℤ pos D) *ℤ pos (d * 2 ^ 40)
    -ℤ (S1 *ℤ a +ℤ S2 *ℤ b) *ℤ pos (D * c)) ≤ (r + 2) * h * (D * c) → PowerRow α β p q x y lo hi d S1 S2 r)
wrap α β p q x y lo hi d r S1 S2 d_pos core =
    let a : ℤ = x -ℤ pos d *ℤ p in
    let b : ℤ = y -ℤ pos d *ℤ q in
    let N : ℤ = α *ℤ p +ℤ β *ℤ q in
    let M : ℤ = α *ℤ a +ℤ β *ℤ b in
    let c : ℕ = clamp (square_of p q) lo hi in
    let D : ℕ = clamp (square_of (pos d *ℤ p +ℤ a) (pos d *ℤ q +ℤ b)) (lo * (d * d)) (hi * (d * d)) in
    let xe : x ≡ pos d *ℤ p +ℤ a = rejoin x (pos d *ℤ p) in
    let ye : y ≡ pos d *ℤ q +ℤ b = rejoin y (pos d *ℤ q) in
    let De : clamp (square_of x y) (lo * (d * d)) (hi * (d * d)) ≡ D =
    ap (λ (z : ℤ). clamp (square_of z y) (lo * (d * d)) (hi * (d * d))) xe
    ∙ ap (λ (z : ℤ). clamp (square_of (pos d *ℤ p +ℤ a) z) (lo * (d * d)) (hi * (d * d))) ye in
    let Ce : clamp (square_of p q) (lo * (1 * 1)) (hi * (1 * 1)) ≡ c = omega arith in
    let more = mul-le-mul_right ((unsigned_abs a + unsigned_abs b) * (D * c)) (let o : r + 2 ≤ r + 4 = omega arith in o) in
    near_by (constant_power α β lo hi x y d) (constant_power α β lo hi p q 1) (S1 *ℤ a +ℤ S2 *ℤ b)
    ((pos d *ℤ N +ℤ M) *ℤ pos d) N D c ((r + 4) * (unsigned_abs a + unsigned_abs b)) (d * 2 ^ 40)
    (ap (λ (z : ℤ). z *ℤ pos d) (top_is α β p q x y d)) (times_one N) De Ce (omega arith)

drop_zero : (N m l : ℤ) → m -ℤ pos 0 *ℤ l ≡ m -ℤ N *ℤ pos 0
drop_zero N m l = omega (arith, ints)

-- a rounded slope S is at most two units from α / c
abbrev pub IsNearFlat : ℤ → ℕ → ℤ → Type 0
IsNearFlat α c S = unsigned_abs (α *ℤ pos (2 ^ 40) -ℤ S *ℤ pos c) ≤ 2 * c

rounds_flat : (α β a b N S1 S2 : ℤ) (c : ℕ) → IsNearFlat α c S1 → IsNearFlat β c S2
    → (let M = α *ℤ a +ℤ β *ℤ b in
    unsigned_abs ((M *ℤ pos c -ℤ N *ℤ pos 0) *ℤ pos (2 ^ 40) -ℤ (S1 *ℤ a +ℤ S2 *ℤ b) *ℤ pos (c * c)) ≤ 2 * (c * c) * (unsigned_abs a + unsigned_abs b))
rounds_flat α β a b N S1 S2 c h1 h2 =
    let k : ℕ = 2 ^ 40 in
    let M : ℤ = α *ℤ a +ℤ β *ℤ b in
    let h = row_off α β a b (pos 0) (pos 0) (pos 0) S1 S2 c k (2 * (c * c)) (flat_off α (pos 0) S1 c k h1) (flat_off β (pos 0) S2 c k h2) in
    subst (λ (m : ℤ). unsigned_abs (m *ℤ pos k -ℤ (S1 *ℤ a +ℤ S2 *ℤ b) *ℤ pos (c * c))
    ≤ 2 * (c * c) * (unsigned_abs a + unsigned_abs b))
    (drop_zero N (M *ℤ pos c) (pos 2 *ℤ pos 0 *ℤ a +ℤ pos 2 *ℤ pos 0 *ℤ b)) h

-- where the box straddles a limit, with the slopes of the clamped square
pub power_across : (α β p q x y S1 S2 : ℤ) (G lo hi rp rq d : ℕ) → 0 < d → 0 < lo → unsigned_abs α + unsigned_abs β ≤ G
    → lo ≤ hi
    → unsigned_abs (x -ℤ pos d *ℤ p) ≤ d * rp → unsigned_abs (y -ℤ pos d *ℤ q) ≤ d * rq
    → (let c = clamp (square_of p q) lo hi in
    IsNearSlope α p (α *ℤ p +ℤ β *ℤ q) c S1 → IsNearSlope β q (α *ℤ p +ℤ β *ℤ q) c S2
    → PowerRow α β p q x y lo hi d S1 S2 (radius_across_of G lo c p q rp rq))
power_across α β p q x y S1 S2 G lo hi rp rq d d_pos lo_pos hG lim ha hb col1 col2 =
    let a : ℤ = x -ℤ pos d *ℤ p in
    let b : ℤ = y -ℤ pos d *ℤ q in
    let c : ℕ = clamp (square_of p q) lo hi in
    let N : ℤ = α *ℤ p +ℤ β *ℤ q in
    let A : ℕ = max (unsigned_abs p) (unsigned_abs q) in
    let s : ℕ = max rp rq in
    let n : ℕ = max lo (c - square_moves p q rp rq) in
    let h : ℕ = unsigned_abs a + unsigned_abs b in
    let l : ℤ = pos 2 *ℤ p *ℤ a +ℤ pos 2 *ℤ q *ℤ b in
    let v : ℤ = pos d *ℤ l +ℤ (a *ℤ a +ℤ b *ℤ b) in
    let D : ℕ = clamp (square_of (pos d *ℤ p +ℤ a) (pos d *ℤ q +ℤ b)) (lo * (d * d)) (hi * (d * d)) in
    let (w, m) = moved_by p q a b lo hi rp rq d d_pos lim ha hb in
    let n_le : n ≤ c = omega arith in
    let sa : unsigned_abs a ≤ d * s = le_trans ha (mul-le-mul_left d (let o : rp ≤ max rp rq = omega arith in o)) in
    let sb : unsigned_abs b ≤ d * s = le_trans hb (mul-le-mul_left d (let o : rq ≤ max rp rq = omega arith in o)) in
    let most : unsigned_abs p * unsigned_abs a + unsigned_abs q * unsigned_abs b ≤ A * h =
    pair_by_most (unsigned_abs p) (unsigned_abs q) (unsigned_abs a) (unsigned_abs b) A (omega arith) (omega arith) in
    let hl : unsigned_abs l ≤ 2 * A * h = omega (arith, l_size p q a b) in
    let crossed = cross_bound p q a b A s n c D d d_pos sa sb (omega arith) (omega arith) m.room n_le in
    let f = across_f l v w A s n c D d h m.lies hl n_le crossed in
    let rounds = row_off α β a b N p q S1 S2 c (2 ^ 40) (2 * (c * c)) col1 col2 in
    wrap α β p q x y lo hi d (radius_across_of G lo c p q rp rq) S1 S2 d_pos
    (across_core α β p q a b G lo hi rp rq d w l (S1 *ℤ a +ℤ S2 *ℤ b) d_pos lo_pos hG lim m f rounds)

-- with the slopes over a constant
pub power_across_flat : (α β p q x y S1 S2 : ℤ) (G lo hi rp rq d : ℕ) → 0 < d → 0 < lo
    → unsigned_abs α + unsigned_abs β ≤ G → lo ≤ hi
    → unsigned_abs (x -ℤ pos d *ℤ p) ≤ d * rp → unsigned_abs (y -ℤ pos d *ℤ q) ≤ d * rq
    → (let c = clamp (square_of p q) lo hi in
    IsNearFlat α c S1 → IsNearFlat β c S2
    → PowerRow α β p q x y lo hi d S1 S2 (radius_across_of G lo c p q rp rq))
power_across_flat α β p q x y S1 S2 G lo hi rp rq d d_pos lo_pos hG lim ha hb h1 h2 =
    let a : ℤ = x -ℤ pos d *ℤ p in
    let b : ℤ = y -ℤ pos d *ℤ q in
    let c : ℕ = clamp (square_of p q) lo hi in
    let A : ℕ = max (unsigned_abs p) (unsigned_abs q) in
    let n : ℕ = max lo (c - square_moves p q rp rq) in
    let h : ℕ = unsigned_abs a + unsigned_abs b in
    let D : ℕ = clamp (square_of (pos d *ℤ p +ℤ a) (pos d *ℤ q +ℤ b)) (lo * (d * d)) (hi * (d * d)) in
    let (w, m) = moved_by p q a b lo hi rp rq d d_pos lim ha hb in
    let f = flat_f w (2 * A + max rp rq) n c D d h m.size_linear m.room in
    let f2 : n * unsigned_abs (pos 0 *ℤ pos D -ℤ w *ℤ pos (d * c)) ≤ (2 * A + max rp rq) * h * (c * D) = rw (zero_times (pos D) (w *ℤ pos (d * c))) f in
    wrap α β p q x y lo hi d (radius_across_of G lo c p q rp rq) S1 S2 d_pos
    (across_core α β p q a b G lo hi rp rq d w (pos 0) (S1 *ℤ a +ℤ S2 *ℤ b) d_pos lo_pos hG lim m f2 (rounds_flat α β a b (α *ℤ p +ℤ β *ℤ q) S1 S2 c h1 h2))

-- outside the limits the divisor does not move
still : (p q a b : ℤ) (lo hi rp rq d : ℕ) → lo ≤ hi → unsigned_abs a ≤ d * rp → unsigned_abs b ≤ d * rq
    → (square_of p q + square_moves p q rp rq ≤ lo) ⊎ (hi + square_moves p q rp rq ≤ square_of p q)
    → clamp (square_of (pos d *ℤ p +ℤ a) (pos d *ℤ q +ℤ b)) (lo * (d * d)) (hi * (d * d)) ≡ clamp (square_of p q) lo hi * d * d
still p q a b lo hi rp rq d lim ha hb (inl out) =
    let s = stays p q a b rp rq d ha hb in
    let m = mul-le-mul_left (d * d) out in
    let m2 = mul-le-mul_left (d * d) lim in
    let e : clamp (square_of p q) lo hi ≡ lo = omega arith in
    rw e (omega arith)
still p q a b lo hi rp rq d lim ha hb (inr out) =
    let s = stays p q a b rp rq d ha hb in
    let m = mul-le-mul_left (d * d) out in
    let m2 = mul-le-mul_left (d * d) lim in
    let e : clamp (square_of p q) lo hi ≡ hi = omega arith in
    rw e (omega arith)

nothing : (N M : ℤ) (c d : ℕ)
    → pos d *ℤ (((pos d *ℤ N +ℤ M) *ℤ pos d *ℤ pos c -ℤ N *ℤ pos (c * d * d)) *ℤ pos c) -ℤ (M *ℤ pos c -ℤ N *ℤ pos 0) *ℤ pos (c * d * d) ≡ pos 0
nothing N M c d = rw (as_val N, as_val M) (simp vals (val-same _ _ _ _ (omega arith) ∙ sym (pos_val 0)))

pub power_outside : (α β p q x y S1 S2 : ℤ) (lo hi rp rq d : ℕ) → 0 < d → 0 < lo → lo ≤ hi
    → unsigned_abs (x -ℤ pos d *ℤ p) ≤ d * rp → unsigned_abs (y -ℤ pos d *ℤ q) ≤ d * rq
    → (square_of p q + square_moves p q rp rq ≤ lo) ⊎ (hi + square_moves p q rp rq ≤ square_of p q)
    → (let c = clamp (square_of p q) lo hi in
    IsNearFlat α c S1 → IsNearFlat β c S2
    → PowerRow α β p q x y lo hi d S1 S2 0)
power_outside α β p q x y S1 S2 lo hi rp rq d d_pos lo_pos lim ha hb out h1 h2 =
    let a : ℤ = x -ℤ pos d *ℤ p in
    let b : ℤ = y -ℤ pos d *ℤ q in
    let c : ℕ = clamp (square_of p q) lo hi in
    let h : ℕ = unsigned_abs a + unsigned_abs b in
    let N : ℤ = α *ℤ p +ℤ β *ℤ q in
    let M : ℤ = α *ℤ a +ℤ β *ℤ b in
    let D : ℕ = clamp (square_of (pos d *ℤ p +ℤ a) (pos d *ℤ q +ℤ b)) (lo * (d * d)) (hi * (d * d)) in
    let J : ℤ = S1 *ℤ a +ℤ S2 *ℤ b in
    let De : D ≡ c * d * d = still p q a b lo hi rp rq d lim ha hb out in
    let T : ℕ → ℤ = λ (m : ℕ). (pos d *ℤ N +ℤ M) *ℤ pos d *ℤ pos c -ℤ N *ℤ pos m in
    let z : pos d *ℤ (T D *ℤ pos c) -ℤ (M *ℤ pos c -ℤ N *ℤ pos 0) *ℤ pos D ≡ pos 0 =
    ap (λ (m : ℕ). pos d *ℤ (T m *ℤ pos c) -ℤ (M *ℤ pos c -ℤ N *ℤ pos 0) *ℤ pos m) De ∙ nothing N M c d in
    let one : 2 ^ 40 * unsigned_abs (pos d *ℤ (T D *ℤ pos c) -ℤ (M *ℤ pos c -ℤ N *ℤ pos 0) *ℤ pos D) ≤ 0 * h * (c * c * D) = omega (arith, ap unsigned_abs z) in
    wrap α β p q x y lo hi d 0 S1 S2 d_pos
    (both (T D) (M *ℤ pos c -ℤ N *ℤ pos 0) J c d (2 ^ 40) D 0 2 h (omega arith) one (rounds_flat α β a b N S1 S2 c h1 h2))
