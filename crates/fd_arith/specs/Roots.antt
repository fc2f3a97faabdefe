-- Roots of intervals.
use Rattle.std.proofs.Common.{◌≡◌, ℕ, suc, ℤ, pos, negsuc, ◌*ℤ◌, ◌≤ℤ◌, ◌*◌, ◌≤◌, Some, None, Bool, true, false, cond, ◌&&◌, arith, sym, ◌∙◌, subst}
use Rattle.std.proofs.Math.Nat.{mul-le-mul_right}
use Rattle.std.proofs.lemmas.Int.{ints, clamps}
use borrow.Author.Differences.{neg_is}
use Rattle.std.specs.Prelude.{int_le}
use Rattle.std.specs.Int.{int_min, int_max}
use Rattle.fd_exact.specs.Fractions.{Fraction, ◌⊗◌}
use Rattle.fd_exact.specs.Order.{scale, ≤ℤ_trans}
use Rattle.fd_arith.specs.Limits.{IsRoot, IsRootUp, non_negative}
use Rattle.fd_arith.specs.Interval.{Bounds, Between, Holds, IsRootOf, least_square, square_of}
use Rattle.fd_arith.specs.Laws.{IsRootEnds}
use Rattle.fd_arith.specs.Enclosing.{capped-holds}

le_of_square : (x y : ℕ) → x * x ≤ y * y → x ≤ y
le_of_square x y h = grind arith

low_root : (m e r n : ℕ) → r * r ≤ n → n * (e * e) ≤ m * m → r * e ≤ m
low_root m e r n h k = le_of_square (r * e) m (omega (arith, mul-le-mul_right (e * e) h))

high_root : (m e r n : ℕ) → n ≤ r * r → m * m ≤ n * (e * e) → m ≤ r * e
high_root m e r n h k = le_of_square m (r * e) (omega (arith, mul-le-mul_right (e * e) h))

below_non_negative : (z : ℤ) (k m : ℕ) → (z *ℤ pos k) ≤ℤ pos m → non_negative z * k ≤ m
below_non_negative (pos n) k m h = omega (arith, ints)
below_non_negative (negsuc n) k m h = omega arith

above_non_negative : (z : ℤ) (k m : ℕ) → pos m ≤ℤ (z *ℤ pos k) → m ≤ non_negative z * k
above_non_negative (pos n) k m h = omega (arith, ints)
above_non_negative (negsuc n) k m h = omega (arith, ints, neg_is (pos (suc n * k)))

-- a root holds each fraction from 0 up whose square is held
root-between : (s r : Bounds) → IsRootOf s r → (m e : ℕ) → Between s (pos (m * m)) (e * e) → Between r (pos m) e
root-between None r w m e h = subst (λ (x : Bounds). Between x (pos m) e) (sym w) tt
root-between (Some s) r (lo, (hi, (is, (low, high)))) m e h =
    let l = low_root m e lo (non_negative s.0) low.0 (below_non_negative s.0 (e * e) (m * m) h.0) in
    let u = high_root m e hi (non_negative s.1) high.0 (above_non_negative s.1 (e * e) (m * m) h.1) in
    subst (λ (x : Bounds). Between x (pos m) e) (sym is) (omega (arith, ints), omega (arith, ints))

root_from_up : (s r : Bounds) → IsRootOf s r → (t : ℤ) (e : ℕ) → pos 0 ≤ℤ t → Between s (t *ℤ t) (e * e) → Between r t e
root_from_up s r w (pos m) e p h = root-between s r w m e h
root_from_up s r w (negsuc m) e p h = absurd (omega (arith, ints))

pub root-holds : (s r : Bounds) → IsRootOf s r → (x : Fraction) → pos 0 ≤ℤ x.top → Holds s (x ⊗ x) → Holds r x
unfolding ◌⊗◌
root-holds s r w x p h = root_from_up s r w x.top x.over p h

-- ---- the squares of its ends lie about what is held

by_test : (t : Bool) (x y : ℤ) → pos 0 ≤ℤ x → cond t (pos 0) (int_min x y) ≤ℤ x
by_test true x y h = h
by_test false x y h = omega (arith, ints, clamps)

squares_of : (lo hi n : ℕ) (d : ℕ) → lo * lo * d ≤ n → n ≤ hi * hi * d
    → Between (square_of (Some (pos lo, pos hi))) (pos n) d
squares_of lo hi n d l h =
    capped-holds (least_square (pos lo, pos hi)) (int_max (pos lo *ℤ pos lo) (pos hi *ℤ pos hi)) (pos n) d
    (≤ℤ_trans (scale (least_square (pos lo, pos hi)) (pos (lo * lo)) d (by_test (int_le (pos lo) (pos 0)
    && int_le (pos 0) (pos hi)) (pos lo *ℤ pos lo) (pos hi *ℤ pos hi) (omega (arith, ints)))) (omega (arith, ints)))
    (≤ℤ_trans (upper n (hi * hi) d h)
    (scale (pos (hi * hi)) (int_max (pos lo *ℤ pos lo) (pos hi *ℤ pos hi)) d (omega (arith, ints, clamps))))
  where
    upper : (n k d : ℕ) → n ≤ k * d → pos n ≤ℤ (pos k *ℤ pos d)
    upper n k d h = omega (arith, ints)

squares-between : (s r : Bounds) → IsRootOf s r → (n d : ℕ) → Between s (pos n) d → Between (square_of r) (pos n) d
squares-between None r w n d h = subst (λ (x : Bounds). Between (square_of x) (pos n) d) (sym w) tt
squares-between (Some s) r (lo, (hi, (is, (low, high)))) n d h =
    let l = below_non_negative s.0 d n h.0 in
    let u = above_non_negative s.1 d n h.1 in
    subst (λ (x : Bounds). Between (square_of x) (pos n) d) (sym is)
    (squares_of lo hi n d (omega (arith, l, mul-le-mul_right d low.0)) (omega (arith, u, mul-le-mul_right d high.0)))

squares_from_up : (s r : Bounds) → IsRootOf s r → (t : ℤ) (d : ℕ) → pos 0 ≤ℤ t → Between s t d
    → Between (square_of r) t d
squares_from_up s r w (pos n) d p h = squares-between s r w n d h
squares_from_up s r w (negsuc n) d p h = absurd (omega (arith, ints))

pub root_of : {s r : Bounds} → IsRootOf s r → IsRootEnds s r
root_of {s} {r} w = record { ends = w; holds = root-holds s r w; squares = λ y p h. squares_from_up s r w y.top y.over p h }

non_negative-mono : (x y : ℤ) → x ≤ℤ y → non_negative x ≤ non_negative y
non_negative-mono (pos x) (pos y) h = omega (arith, ints)
non_negative-mono (pos x) (negsuc y) h = absurd (omega (arith, ints))
non_negative-mono (negsuc x) y h = omega arith

pub roots_in_order : (x y : ℤ) (lo hi : ℕ) → x ≤ℤ y → IsRoot (non_negative x) lo → IsRootUp (non_negative y) hi
    → lo ≤ hi
roots_in_order x y lo hi h low high = le_of_square lo hi (omega (arith, low.0, high.0, non_negative-mono x y h))

pub root_from : {s r : Bounds} {lo hi : ℤ} (low high : ℕ) (l k : ℤ) → Some (lo, hi) ≡ s → r ≡ Some (l, k) → l ≡ pos low
    → k ≡ pos high → IsRoot (non_negative lo) low → IsRootUp (non_negative hi) high → IsRootEnds s r
root_from {s} {r} {lo} {hi} low high l k p e u v a b =
    let w : IsRootOf (Some (lo, hi)) r = (low, (high, (e ∙ (λ i. Some (u i, v i)), (a, b)))) in
    subst (λ (x : Bounds). IsRootEnds x r) p (root_of w)
