-- Quotients of intervals by what is above 0.
use Rattle.std.proofs.Common.{◌≡◌, ℕ, ℤ, pos, negsuc, ◌*ℤ◌, ◌≤ℤ◌, ◌<ℤ◌, ◌*◌, ◌^◌, ⊎_elim, Some, arith, sym, ◌∙◌, subst}
use Rattle.std.proofs.lemmas.Int.{ints, clamps}
use Rattle.std.specs.Int.{int_min, int_max}
use Rattle.fd_exact.specs.Fractions.{fraction}
use Rattle.fd_exact.specs.Integers.{as_val, vals, val-same, comm, assoc, regroup}
use Rattle.fd_exact.specs.Order.{scale, mul-le_right, mul-le_flip, ≤ℤ_trans, ≤ℤ_total}
use Rattle.fd_exact.specs.Quotients.{floor-ceil, floor-low, ceil-high}
use Rattle.fd_arith.specs.Interval.{Bounds, Between, HoldsCoef, capped, hull_of, quotients, down_at, up_at}
use Rattle.fd_arith.specs.Laws.{IsQuotient}
use Rattle.fd_arith.specs.Enclosing.{capped-holds}
use Rattle.fd_arith.specs.Products.{hull-four-capped}

-- ---- quotients by what is above 0

-- l m is at most the greater of its values at the ends
between_ends : (l x d e q m : ℤ) → (l *ℤ d) ≤ℤ x → (l *ℤ e) ≤ℤ x → d ≤ℤ m → m ≤ℤ e → (l *ℤ m) ≤ℤ x
between_ends l x d e q m p r h k = ⊎_elim
    (λ up. ≤ℤ_trans (rw (comm l m, comm l e) (mul-le_right _ _ _ k up)) r)
    (λ low. ≤ℤ_trans (rw (comm l m, comm l d) (mul-le_flip _ _ _ h low)) p)
    (≤ℤ_total (pos 0) l)

scaled-down : (x : ℤ) (d : ℤ) → pos 0 <ℤ d → (down_at x d *ℤ d) ≤ℤ (x *ℤ pos (2 ^ 40))
scaled-down x (pos d) h = floor-low (x *ℤ pos (2 ^ 40)) d (omega (arith, ints))
scaled-down x (negsuc d) h = absurd (omega (arith, ints))

scaled-up : (x : ℤ) (d : ℤ) → pos 0 <ℤ d → (x *ℤ pos (2 ^ 40)) ≤ℤ (up_at x d *ℤ d)
scaled-up x (pos d) h = ceil-high (x *ℤ pos (2 ^ 40)) d (omega (arith, ints))
scaled-up x (negsuc d) h = absurd (omega (arith, ints))

above_ends : (u x d e m : ℤ) → x ≤ℤ (u *ℤ d) → x ≤ℤ (u *ℤ e) → d ≤ℤ m → m ≤ℤ e → x ≤ℤ (u *ℤ m)
above_ends u x d e m p r h k = ⊎_elim
    (λ up. ≤ℤ_trans p (rw (comm u m, comm u d) (mul-le_right _ _ _ h up)))
    (λ low. ≤ℤ_trans r (rw (comm u m, comm u e) (mul-le_flip _ _ _ k low)))
    (≤ℤ_total (pos 0) u)

-- ((x c) q) p = ((x p) q) c
turn : (x : ℤ) (c q p : ℕ) → (((x *ℤ pos c) *ℤ pos q) *ℤ pos p) ≡ (((x *ℤ pos p) *ℤ pos q) *ℤ pos c)
turn x c q p = rw (as_val x) (simp vals (val-same _ _ _ _ (omega arith)))

quotient_low : (l x d e n m : ℤ) (c p q : ℕ) → (l *ℤ d) ≤ℤ (x *ℤ pos c) → (l *ℤ e) ≤ℤ (x *ℤ pos c) → (d *ℤ pos q) ≤ℤ m
    → m ≤ℤ (e *ℤ pos q) → (x *ℤ pos p) ≤ℤ n → ((l *ℤ m) *ℤ pos p) ≤ℤ ((n *ℤ pos q) *ℤ pos c)
quotient_low l x d e n m c p q f g h k low =
    let at : (l *ℤ m) ≤ℤ ((x *ℤ pos c) *ℤ pos q) =
    between_ends l ((x *ℤ pos c) *ℤ pos q) (d *ℤ pos q) (e *ℤ pos q) m m (rw (← assoc l d (pos q)) (scale _ _ q f))
    (rw (← assoc l e (pos q)) (scale _ _ q g)) h k in
    ≤ℤ_trans (scale _ _ p at) (rw (turn x c q p) (scale _ _ c (scale _ _ q low)))

quotient_high : (u x d e n m : ℤ) (c p q : ℕ) → (x *ℤ pos c) ≤ℤ (u *ℤ d) → (x *ℤ pos c) ≤ℤ (u *ℤ e) → (d *ℤ pos q) ≤ℤ m
    → m ≤ℤ (e *ℤ pos q) → n ≤ℤ (x *ℤ pos p) → ((n *ℤ pos q) *ℤ pos c) ≤ℤ ((u *ℤ m) *ℤ pos p)
quotient_high u x d e n m c p q f g h k high =
    let at : ((x *ℤ pos c) *ℤ pos q) ≤ℤ (u *ℤ m) =
    above_ends u ((x *ℤ pos c) *ℤ pos q) (d *ℤ pos q) (e *ℤ pos q) m (rw (← assoc u d (pos q)) (scale _ _ q f))
    (rw (← assoc u e (pos q)) (scale _ _ q g)) h k in
    ≤ℤ_trans (scale _ _ c (scale _ _ q high)) (rw (← turn x c q p) (scale _ _ p at))

quotients-between : (a d : ℤ × ℤ) → pos 0 <ℤ d.0 → d.0 ≤ℤ d.1 → (n : ℤ) (m p q : ℕ) → Between (Some a) n p
    → Between (Some d) (pos m) q → Between (quotients a d) ((n *ℤ pos q) *ℤ pos (2 ^ 40)) (p * m)
unfolding quotients
quotients-between a d z o n m p q h k = capped-holds low high ((n *ℤ pos q) *ℤ pos (2 ^ 40)) (p * m)
    (rw (regroup low p m) (quotient_low low a.0 d.0 d.1 n (pos m) (2 ^ 40) p q
    (≤ℤ_trans (mul-le_right low (down_at a.0 d.0) d.0 (omega (arith, ints, clamps)) (omega (arith, ints))) (scaled-down a.0 d.0 z))
    (≤ℤ_trans (mul-le_right low (down_at a.0 d.1) d.1 (omega (arith, ints, clamps)) (omega (arith, ints))) (scaled-down a.0 d.1 (omega (arith, ints))))
    k.0 k.1 h.0))
    (rw (regroup high p m) (quotient_high high a.1 d.0 d.1 n (pos m) (2 ^ 40) p q
    (≤ℤ_trans (scaled-up a.1 d.0 z) (mul-le_right (up_at a.1 d.0) high d.0 (omega (arith, ints, clamps)) (omega (arith, ints))))
    (≤ℤ_trans (scaled-up a.1 d.1 (omega (arith, ints))) (mul-le_right (up_at a.1 d.1) high d.1 (omega (arith, ints, clamps)) (omega (arith, ints))))
    k.0 k.1 h.1))
  where
    low : ℤ
    low = int_min (int_min (down_at a.0 d.0) (down_at a.0 d.1)) (int_min (down_at a.1 d.0) (down_at a.1 d.1))

    high : ℤ
    high = int_max (int_max (up_at a.0 d.0) (up_at a.0 d.1)) (int_max (up_at a.1 d.0) (up_at a.1 d.1))

down_up : (x d : ℤ) → pos 0 <ℤ d → down_at x d ≤ℤ up_at x d
down_up x (pos d) h = floor-ceil (x *ℤ pos (2 ^ 40)) d (omega (arith, ints))
down_up x (negsuc d) h = absurd (omega (arith, ints))

-- what a body that divides each end by each end has to show
pub quotient_from : {a d r : Bounds} {lo hi low high : ℤ} → Some (lo, hi) ≡ a → Some (low, high) ≡ d → low ≤ℤ high
    → pos 0 <ℤ low → high ≤ℤ pos (10 ^ 32)
    → r
    ≡ hull_of (hull_of (capped (down_at lo low) (up_at lo low)) (capped (down_at lo high) (up_at lo high)))
    (hull_of (capped (down_at hi low) (up_at hi low)) (capped (down_at hi high) (up_at hi high)))
    → IsQuotient a d r
unfolding quotients
quotient_from {a} {d} {r} {lo} {hi} {low} {high} p q o z most e =
    let zz : pos 0 <ℤ high = omega (arith, ints) in
    let is : r ≡ quotients (lo, hi) (low, high) =
    e
    ∙ hull-four-capped _ _ _ _ _ _ _ _ (down_up lo low z) (down_up lo high zz) (down_up hi low z)
    (down_up hi high zz) in
    subst (λ (x : Bounds). IsQuotient x d r) p (subst (λ (y : Bounds). IsQuotient (Some (lo, hi)) y r) q (record {
      ends = ((λ u v. is), ((λ u. absurd (omega (arith, ints))), (λ u. absurd (omega (arith, ints)))));
      holds = λ x m k h j.
          subst (λ (y : Bounds). HoldsCoef y (fraction (x.top *ℤ pos k) (x.over * m))) (sym is)
          (quotients-between (lo, hi) (low, high) z o x.top m x.over k h j);
    }))
