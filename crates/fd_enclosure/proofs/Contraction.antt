-- How far apart two states may be that meet the same numbers, where an inverse times the Jacobian is near the unit matrix: |y| <= |C| 2 e + T |y|, for the
-- greatest part of y by weight.
use Rattle.std.proofs.Common.{◌≡◌, ℕ, zero, suc, ◌+◌, ◌*◌, ◌-◌, ◌<◌, ◌≤◌, ℤ, pos, ◌+ℤ◌, ◌-ℤ◌, ◌*ℤ◌, neg_ℤ, cond, eqb, arith, sym, refl, ap, ◌∙◌}
use Rattle.std.specs.Int.RustNames.{unsigned_abs}
use Rattle.std.proofs.Math.Nat.{mul-le-mul_left, mul-le-mul_right, le_of_mul-le-mul_right, mul-pos}
use Rattle.std.proofs.lemmas.Int.{ints, unsigned_abs-mul}
use Rattle.fd_equations.specs.fd_exact.Greatest.{greatest_ratio}
use Rattle.fd_equations.specs.fd_exact.Integers.{abs_add, assoc, sub-mul}
use Rattle.fd_equations.specs.fd_exact.SumLaws.{abs_sum, sum_n-add, sum_n-le, sum_n-same, sum_n-swap, sum_n-times, sum_n-times_right, sum_z-add, sum_z-neg, sum_z-same, sum_z-swap, sum_z-times, sum_z-times_right}
use Rattle.fd_equations.specs.fd_exact.Sums.{sum_n, sum_z}
use Rattle.fd_enclosure.proofs.Rows.{single_moved}

-- the unit matrix times q
abbrev pub diagonal : ℤ → ℕ → ℕ → ℤ
diagonal q i j = cond (eqb i j) q (pos 0)

-- what is left of it after C J, and what the radii of slopes add
abbrev pub left_in : ℤ → (ℕ → ℕ → ℤ) → (ℕ → ℕ → ℤ) → (ℕ → ℕ → ℕ) → ℕ → ℕ → ℕ → ℕ
left_in q C J R n i j = unsigned_abs (diagonal q i j -ℤ sum_z (λ l. C i l *ℤ J l j) n) + sum_n (λ l. unsigned_abs (C i l) * R l j) n

pub split_row : (q : ℤ) (A y : ℕ → ℤ) (i n : ℕ) → i < n
    → sum_z (λ j. (diagonal q i j -ℤ A j) *ℤ y j) n ≡ q *ℤ y i -ℤ sum_z (λ j. A j *ℤ y j) n
split_row q A y i n h =
    sum_z-same _ _ n (λ j p. sub-mul (diagonal q i j) (A j) (y j))
    ∙ sum_z-add (λ j. diagonal q i j *ℤ y j) (λ j. neg_ℤ (A j *ℤ y j)) n
    ∙ rw (single_moved y q i n h, sum_z-neg (λ j. A j *ℤ y j) n) refl

-- the product of a row with a matrix and then with a vector
pub product_row : (C : ℕ → ℤ) (J : ℕ → ℕ → ℤ) (y : ℕ → ℤ) (n : ℕ)
    → sum_z (λ j. sum_z (λ l. C l *ℤ J l j) n *ℤ y j) n ≡ sum_z (λ l. C l *ℤ sum_z (λ j. J l j *ℤ y j) n) n
product_row C J y n =
    sum_z-same _ _ n (λ j p. sym (sum_z-times_right (λ l. C l *ℤ J l j) (y j) n))
    ∙ sum_z-swap (λ j l. C l *ℤ J l j *ℤ y j) n n
    ∙ sum_z-same _ _ n (λ l p. sum_z-same _ _ n (λ j s. assoc (C l) (J l j) (y j)) ∙ sum_z-times (C l) (λ j. J l j *ℤ y j) n)

pub identity : (q : ℤ) (C : ℕ → ℤ) (J : ℕ → ℕ → ℤ) (y : ℕ → ℤ) (i n : ℕ) → i < n
    → q *ℤ y i ≡ sum_z (λ j. (diagonal q i j -ℤ sum_z (λ l. C l *ℤ J l j) n) *ℤ y j) n +ℤ sum_z (λ l. C l *ℤ sum_z (λ j. J l j *ℤ y j) n) n
identity q C J y i n h =
    let a = split_row q (λ j. sum_z (λ l. C l *ℤ J l j) n) y i n h in
    let b = product_row C J y n in
    omega (arith, ints)

-- what a row of the inverse makes of y
pub spread : (q : ℤ) (C : ℕ → ℤ) (J : ℕ → ℕ → ℤ) (y : ℕ → ℤ) (i n : ℕ) → i < n
    → unsigned_abs q * unsigned_abs (y i)
    ≤ sum_n (λ j. unsigned_abs (diagonal q i j -ℤ sum_z (λ l. C l *ℤ J l j) n) * unsigned_abs (y j)) n
    + sum_n (λ l. unsigned_abs (C l) * unsigned_abs (sum_z (λ j. J l j *ℤ y j) n)) n
spread q C J y i n h =
    let e = ap unsigned_abs (identity q C J y i n h) in
    let p = abs_add (sum_z (λ j. (diagonal q i j -ℤ sum_z (λ l. C l *ℤ J l j) n) *ℤ y j) n) (sum_z (λ l. C l *ℤ sum_z (λ j. J l j *ℤ y j) n) n) in
    let a = abs_sum (λ j. (diagonal q i j -ℤ sum_z (λ l. C l *ℤ J l j) n) *ℤ y j) n in
    let b = abs_sum (λ l. C l *ℤ sum_z (λ j. J l j *ℤ y j) n) n in
    let a2 = sum_n-same (λ j. unsigned_abs ((diagonal q i j -ℤ sum_z (λ l. C l *ℤ J l j) n) *ℤ y j))
    (λ j. unsigned_abs (diagonal q i j -ℤ sum_z (λ l. C l *ℤ J l j) n) * unsigned_abs (y j)) n (λ j s.
    unsigned_abs-mul (diagonal q i j -ℤ sum_z (λ l. C l *ℤ J l j) n) (y j)) in
    let b2 = sum_n-same (λ l. unsigned_abs (C l *ℤ sum_z (λ j. J l j *ℤ y j) n))
    (λ l. unsigned_abs (C l) * unsigned_abs (sum_z (λ j. J l j *ℤ y j) n)) n (λ l s.
    unsigned_abs-mul (C l) (sum_z (λ j. J l j *ℤ y j) n)) in
    let c = unsigned_abs-mul q (y i) in
    omega arith

-- over naturals: c for the sizes of a row of the inverse, v for what the rows allow
pub rows_bound : (c : ℕ → ℕ) (R : ℕ → ℕ → ℕ) (a g v : ℕ → ℕ) (n : ℕ)
    → ((l : ℕ) → l < n → v l ≤ sum_n (λ j. R l j * a j) n + g l)
    → sum_n (λ l. c l * v l) n ≤ sum_n (λ j. sum_n (λ l. c l * R l j) n * a j) n + sum_n (λ l. c l * g l) n
rows_bound c R a g v n h =
    let one = sum_n-le (λ l. c l * v l) (λ l. sum_n (λ j. c l * R l j * a j) n + c l * g l) n (λ l p.
    let s = h l p in
    let t = sum_n-times (c l) (λ j. R l j * a j) n in
    let t2 = sum_n-same (λ j. c l * R l j * a j) (λ j. c l * (R l j * a j)) n (λ j q. omega arith) in
    omega (arith, mul-le-mul_left (c l) s)) in
    let two = sum_n-add (λ l. sum_n (λ j. c l * R l j * a j) n) (λ l. c l * g l) n in
    let three = sum_n-swap (λ l j. c l * R l j * a j) n n in
    let four = sum_n-same (λ j. sum_n (λ l. c l * R l j * a j) n) (λ j. sum_n (λ l. c l * R l j) n * a j) n
    (λ j p. sum_n-times_right (λ l. c l * R l j) (a j) n) in
    omega arith

chain : (aj wj ak wk an wn : ℕ) → 0 < wk → aj * wk ≤ ak * wj → ak * wn ≤ an * wk → aj * wn ≤ an * wj
chain aj wj ak wk an wn pos_k p q =
    let x = mul-le-mul_right wn p in
    let y = mul-le-mul_right wj q in
    let g : aj * wn * wk ≤ an * wj * wk = omega arith in
    le_of_mul-le-mul_right g pos_k

-- the last step at the place k of the greatest ratio. s for 2^40, u for 2^20, t for what K leaves of s
at_greatest : (s u d ak wk sum_t bk K B t : ℕ) → 0 < s → 0 < wk → s * s * ak * wk ≤ ak * sum_t + bk * (d * s) * wk
    → sum_t ≤ K * (wk * s) → bk * u ≤ B * wk → s ≡ t + K → u * t * ak ≤ d * B * wk
at_greatest s u d ak wk sum_t bk K B t s_pos w_pos h hk hb e =
    let x = mul-le-mul_left ak hk in
    let g : (s * ak) * (s * wk) ≤ (K * ak + bk * d) * (s * wk) = omega arith in
    let g2 : s * ak ≤ K * ak + bk * d = le_of_mul-le-mul_right g (mul-pos s_pos w_pos) in
    let y = mul-le-mul_left d hb in
    let e2 = ap (λ (n : ℕ). n * ak) e in
    let g3 : t * ak ≤ bk * d = omega arith in
    let z = mul-le-mul_left u g3 in
    omega arith

rest : (f d ak wk ai wi r B : ℕ) → 0 < f → 0 < wk → f * ak ≤ d * B * wk → ai * wk ≤ ak * wi → wi * B ≤ r * f
    → ai ≤ d * r
rest f d ak wk ai wi r B f_pos w_pos h p hr =
    let x = mul-le-mul_left f p in
    let y = mul-le-mul_right wi h in
    let z = mul-le-mul_left (d * wk) hr in
    let g : ai * (f * wk) ≤ d * r * (f * wk) = omega arith in
    le_of_mul-le-mul_right g (mul-pos f_pos w_pos)

-- row i of T times a, with the weights
weighted : (T a w : ℕ → ℕ) (n k : ℕ) → ((j : ℕ) → j < n → a j * w k ≤ a k * w j)
    → sum_n (λ j. T j * a j) n * w k ≤ a k * sum_n (λ j. w j * T j) n
weighted T a w n k best =
    let p = sum_n-times_right (λ j. T j * a j) (w k) n in
    let q = sum_n-times (a k) (λ j. w j * T j) n in
    let l = sum_n-le (λ j. T j * a j * w k) (λ j. a k * (w j * T j)) n (λ j s. omega (arith, mul-le-mul_left (T j) (best j s))) in
    omega arith

-- row k: S^2 |y_k| is at most what T makes of |y|, and what the inverse makes of the mismatches
pub row_whole : (s d : ℕ) (C J : ℕ → ℕ → ℤ) (R : ℕ → ℕ → ℕ) (y : ℕ → ℤ) (e : ℕ → ℕ) (n k : ℕ)
    → ((l : ℕ) → l < n
    → unsigned_abs (sum_z (λ j. J l j *ℤ y j) n) ≤ sum_n (λ j. R l j * unsigned_abs (y j)) n + 2 * e l * (d * s))
    → k < n
    → s * s * unsigned_abs (y k) ≤ sum_n (λ j. left_in (pos (s * s)) C J R n k j * unsigned_abs (y j)) n
    + sum_n (λ l. unsigned_abs (C k l) * (2 * e l)) n * (d * s)
row_whole s d C J R y e n k rows k_in =
    let a = λ (j : ℕ). unsigned_abs (y j) in
    let c = λ (l : ℕ). unsigned_abs (C k l) in
    let first = spread (pos (s * s)) (C k) J y k n k_in in
    let second = rows_bound c R a (λ l. 2 * e l * (d * s)) (λ l. unsigned_abs (sum_z (λ j. J l j *ℤ y j) n)) n rows in
    let D = λ (j : ℕ). unsigned_abs (diagonal (pos (s * s)) k j -ℤ sum_z (λ l. C k l *ℤ J l j) n) in
    let third = sum_n-add (λ j. D j * a j) (λ j. sum_n (λ l. c l * R l j) n * a j) n in
    let fourth = sum_n-same (λ j. left_in (pos (s * s)) C J R n k j * a j) (λ j. D j * a j + sum_n (λ l. c l * R l j) n * a j) n (λ j p. omega arith) in
    let fifth = sum_n-times_right (λ l. c l * (2 * e l)) (d * s) n in
    let sixth = sum_n-same (λ l. c l * (2 * e l * (d * s))) (λ l. c l * (2 * e l) * (d * s)) n (λ l p. omega arith) in
    omega arith

-- |x - c| <= |C| 2e + T |x - c| in the weighted greatest part
at_places : (s u d K B : ℕ) (C J : ℕ → ℕ → ℤ) (R : ℕ → ℕ → ℕ) (y : ℕ → ℤ) (e w r : ℕ → ℕ) (n k : ℕ)
    → 0 < s → 0 < u
    → ((j : ℕ) → j < n → 0 < w j)
    → ((l : ℕ) → l < n → unsigned_abs (sum_z (λ j. J l j *ℤ y j) n) ≤ sum_n (λ j. R l j * unsigned_abs (y j)) n + 2 * e l * (d * s))
    → ((i : ℕ) → i < n → sum_n (λ j. w j * left_in (pos (s * s)) C J R n i j) n ≤ K * (w i * s))
    → K < s
    → ((i : ℕ) → i < n → sum_n (λ l. unsigned_abs (C i l) * (2 * e l)) n * u ≤ B * w i)
    → ((i : ℕ) → i < n → w i * B ≤ r i * (u * (s - K)))
    → k < n → ((j : ℕ) → j < n → unsigned_abs (y j) * w k ≤ unsigned_abs (y k) * w j)
    → (i : ℕ) → i < n → unsigned_abs (y i) ≤ d * r i
at_places s u d K B C J R y e w r n k s_pos u_pos w_pos rows hK small hB hr k_in best i i_in =
    let T = λ (j : ℕ). left_in (pos (s * s)) C J R n k j in
    let whole = row_whole s d C J R y e n k rows k_in in
    let a = weighted T (λ j. unsigned_abs (y j)) w n k best in
    let b = mul-le-mul_right (w k) whole in
    let t_pos : 0 < s - K = omega arith in
    let t_is : s ≡ (s - K) + K = omega arith in
    let h = at_greatest s u d (unsigned_abs (y k)) (w k) (sum_n (λ j. w j * T j) n)
    (sum_n (λ l. unsigned_abs (C k l) * (2 * e l)) n) K B (s - K) s_pos (w_pos k k_in) (omega arith) (hK k k_in)
    (hB k k_in) t_is in
    rest (u * (s - K)) d (unsigned_abs (y k)) (w k) (unsigned_abs (y i)) (w i) (r i) B (mul-pos u_pos t_pos) (w_pos k k_in) h (best i i_in) (hr i i_in)

pub enclosed : (s u d K B : ℕ) (C J : ℕ → ℕ → ℤ) (R : ℕ → ℕ → ℕ) (y : ℕ → ℤ) (e w r : ℕ → ℕ) (n : ℕ)
    → 0 < s → 0 < u
    → ((j : ℕ) → j < n → 0 < w j)
    → ((l : ℕ) → l < n → unsigned_abs (sum_z (λ j. J l j *ℤ y j) n) ≤ sum_n (λ j. R l j * unsigned_abs (y j)) n + 2 * e l * (d * s))
    → ((i : ℕ) → i < n → sum_n (λ j. w j * left_in (pos (s * s)) C J R n i j) n ≤ K * (w i * s))
    → K < s
    → ((i : ℕ) → i < n → sum_n (λ l. unsigned_abs (C i l) * (2 * e l)) n * u ≤ B * w i)
    → ((i : ℕ) → i < n → w i * B ≤ r i * (u * (s - K)))
    → (i : ℕ) → i < n → unsigned_abs (y i) ≤ d * r i
enclosed s u d K B C J R y e w r zero s_pos u_pos w_pos rows hK small hB hr i i_in = absurd (omega arith)
enclosed s u d K B C J R y e w r (suc n) s_pos u_pos w_pos rows hK small hB hr i i_in =
    let (k, k_in, best) = greatest_ratio (λ j. unsigned_abs (y j)) w n w_pos in
    at_places s u d K B C J R y e w r (suc n) k s_pos u_pos w_pos rows hK small hB hr k_in best i i_in
