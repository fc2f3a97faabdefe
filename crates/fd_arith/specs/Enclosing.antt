-- Sums, differences, negations, hulls and clamped intervals hold what they have to hold.
use Rattle.std.proofs.Common.{◌≡◌, ℕ, ℤ, pos, neg_ℤ, ◌+ℤ◌, ◌-ℤ◌, ◌*ℤ◌, ◌≤ℤ◌, ◌<◌, ◌^◌, ◌*◌, ⊎_elim, Some, None, Bool, true, false, cond, arith, refl, ap, sym, ◌∙◌, subst, ◌&&◌}
use Rattle.std.specs.Int.{int_min, int_max}
use Rattle.std.proofs.lemmas.Int.{ints, clamps}
use Rattle.fd_exact.specs.Fractions.{Fraction, ◌⊕◌, ◌⊖◌, opposite, Same}
use Rattle.fd_exact.specs.Integers.{common, neg-mul, spread, turn}
use Rattle.fd_exact.specs.Order.{scale, le_of_scale, ≤ℤ_trans, ≤ℤ_total}
use Rattle.fd_arith.specs.Limits.{fits}
use Rattle.fd_arith.specs.Interval.{Bounds, Between, Holds, HoldsCoef, capped, sum, difference, negation, hull_of, clip, clamped, clipped}
use Rattle.fd_arith.specs.Laws.{IsSum, IsDifference, IsNegation, IsHull, IsClamped}

by_test : (t : Bool) (e : Bounds) (n : ℤ) (d : ℕ) → Between e n d → Between (cond t e None) n d
by_test true e n d h = h
by_test false e n d h = tt

pub capped-holds : (lo hi n : ℤ) (d : ℕ) → (lo *ℤ pos d) ≤ℤ n → n ≤ℤ (hi *ℤ pos d) → Between (capped lo hi) n d
unfolding capped
capped-holds lo hi n d l h = by_test (fits lo && fits hi) (Some (lo, hi)) n d (l, h)

-- ---- another denominator

pub rescale : (a : Bounds) (n : ℤ) (d k : ℕ) → Between a n d → Between a (n *ℤ pos k) (d * k)
rescale None n d k h = tt
rescale (Some a) n d k h = (rw (spread a.0 d k) (scale _ _ k h.0), rw (spread a.1 d k) (scale _ _ k h.1))

pub rescaled : (a : Bounds) (n : ℤ) (d k : ℕ) → 0 < k → Between a (n *ℤ pos k) (d * k) → Between a n d
rescaled None n d k p h = tt
rescaled (Some a) n d k p h = (le_of_scale _ _ k p (rw (← spread a.0 d k) h.0), le_of_scale _ _ k p (rw (← spread a.1 d k) h.1))

-- two ways to write one number
same_between : (a : Bounds) (n m : ℤ) (d e : ℕ) → 0 < d → (n *ℤ pos e) ≡ (m *ℤ pos d) → Between a n d → Between a m e
same_between a n m d e p c h =
    rescaled a m e d p (subst (λ (z : ℤ). Between a z (e * d)) c
    (subst (λ (k : ℕ). Between a (n *ℤ pos e) k) (turned d e) (rescale a n d e h)))
  where
    turned : (d e : ℕ) → d * e ≡ e * d
    turned d e = omega arith

pub Holds-same : (a : Bounds) (x y : Fraction) → Same x y → Holds a x → Holds a y
Holds-same a x y s h = same_between a x.top y.top x.over y.over s.left s.cross h

pub HoldsCoef-same : (a : Bounds) (x y : Fraction) → Same x y → HoldsCoef a x → HoldsCoef a y
HoldsCoef-same a x y s h =
    same_between a (x.top *ℤ pos (2 ^ 40)) (y.top *ℤ pos (2 ^ 40)) x.over y.over s.left
    (turn x.top (2 ^ 40) y.over ∙ ap (λ z. z *ℤ pos (2 ^ 40)) s.cross ∙ turn y.top x.over (2 ^ 40)) h

-- ---- sums

sum-between : (a b : Bounds) (n m : ℤ) (d e : ℕ) → Between a n d → Between b m e
    → Between (sum a b) ((n *ℤ pos e) +ℤ (m *ℤ pos d)) (d * e)
sum-between (Some a) (Some b) n m d e h k = capped-holds (a.0 +ℤ b.0) (a.1 +ℤ b.1) ((n *ℤ pos e) +ℤ (m *ℤ pos d)) (d * e)
    (rw (common a.0 b.0 d e) (omega (arith, ints, scale _ _ e h.0, scale _ _ d k.0)))
    (rw (common a.1 b.1 d e) (omega (arith, ints, scale _ _ e h.1, scale _ _ d k.1)))
sum-between (Some a) None n m d e h k = tt
sum-between None b n m d e h k = tt

pub sum-holds : (a b : Bounds) (x y : Fraction) → Holds a x → Holds b y → Holds (sum a b) (x ⊕ y)
unfolding ◌⊕◌
sum-holds a b x y h k = sum-between a b x.top y.top x.over y.over h k

negation-between : (a : Bounds) (n : ℤ) (d : ℕ) → Between a n d → Between (negation a) (neg_ℤ n) d
negation-between None n d h = tt
negation-between (Some a) n d h = (rw (neg-mul a.1 (pos d)) (omega (arith, ints, h.1)), rw (neg-mul a.0 (pos d)) (omega (arith, ints, h.0)))

pub negation-holds : (a : Bounds) (x : Fraction) → Holds a x → Holds (negation a) (opposite x)
unfolding opposite
negation-holds a x h = negation-between a x.top x.over h

difference_is : (a b : Bounds) → difference a b ≡ sum a (negation b)
difference_is (Some a) (Some b) = refl
difference_is (Some a) None = refl
difference_is None b = refl

pub difference-holds : (a b : Bounds) (x y : Fraction) → Holds a x → Holds b y → Holds (difference a b) (x ⊖ y)
difference-holds a b x y h k = rw (difference_is a b) (sum-holds a (negation b) x (opposite y) h (negation-holds b y k))

-- ---- hulls

pub hull-left : (a b : Bounds) (x : Fraction) → Holds a x → Holds (hull_of a b) x
hull-left (Some a) (Some b) x h = (≤ℤ_trans (scale _ _ x.over (omega (arith, ints, clamps))) h.0, ≤ℤ_trans h.1 (scale _ _ x.over (omega (arith, ints, clamps))))
hull-left (Some a) None x h = tt
hull-left None b x h = tt

pub hull-right : (a b : Bounds) (x : Fraction) → Holds b x → Holds (hull_of a b) x
hull-right (Some a) (Some b) x h = (
  ≤ℤ_trans (scale _ _ x.over (omega (arith, ints, clamps))) h.0,
  ≤ℤ_trans h.1 (scale _ _ x.over (omega (arith, ints, clamps))),
)
hull-right (Some a) None x h = tt
hull-right None b x h = tt

-- ---- clamped intervals

clip_low : (lo hi e n : ℤ) (d : ℕ) → (e *ℤ pos d) ≤ℤ n → (clip lo hi e *ℤ pos d) ≤ℤ clip (lo *ℤ pos d) (hi *ℤ pos d) n
clip_low lo hi e n d h =
    let top : (clip lo hi e *ℤ pos d) ≤ℤ (hi *ℤ pos d) = scale _ _ d (omega (arith, ints, clamps)) in
    ⊎_elim
    (λ le. let low : (clip lo hi e *ℤ pos d) ≤ℤ (lo *ℤ pos d) = scale _ _ d (omega (arith, ints, clamps)) in omega (arith, ints, clamps))
    (λ ge. let low : (clip lo hi e *ℤ pos d) ≤ℤ (e *ℤ pos d) = scale _ _ d (omega (arith, ints, clamps)) in omega (arith, ints, clamps))
    (≤ℤ_total e lo)

clip_high : (lo hi e n : ℤ) (d : ℕ) → n ≤ℤ (e *ℤ pos d) → clip (lo *ℤ pos d) (hi *ℤ pos d) n ≤ℤ (clip lo hi e *ℤ pos d)
clip_high lo hi e n d h = ⊎_elim
    (λ le. let at : (hi *ℤ pos d) ≤ℤ (clip lo hi e *ℤ pos d) = scale _ _ d (omega (arith, ints, clamps)) in omega (arith, ints, clamps))
    (λ ge.
    let one : (e *ℤ pos d) ≤ℤ (clip lo hi e *ℤ pos d) = scale _ _ d (omega (arith, ints, clamps)) in
    let two : (lo *ℤ pos d) ≤ℤ (clip lo hi e *ℤ pos d) = scale _ _ d (omega (arith, ints, clamps)) in
    omega (arith, ints, clamps))
    (≤ℤ_total hi (int_max e lo))

pub clamped-holds : (a : Bounds) (lo hi : ℤ) → lo ≤ℤ hi → (x : Fraction) → Holds a x
    → Holds (clamped a lo hi) (clipped lo hi x)
clamped-holds (Some a) lo hi o x h =
    capped-holds (clip lo hi a.0) (clip lo hi a.1) (clip (lo *ℤ pos x.over) (hi *ℤ pos x.over) x.top) x.over
    (clip_low lo hi a.0 x.top x.over h.0) (clip_high lo hi a.1 x.top x.over h.1)
clamped-holds None lo hi o x h =
    let s = scale lo hi x.over o in
    capped-holds lo hi (clip (lo *ℤ pos x.over) (hi *ℤ pos x.over) x.top) x.over (omega (arith, ints, clamps)) (omega (arith, ints, clamps))

-- ---- the operators as definitions

pub sum_lem : (a b : Bounds) → IsSum a b (sum a b)
sum_lem a b = record { ends = refl; holds = sum-holds a b }

pub difference_lem : (a b : Bounds) → IsDifference a b (difference a b)
difference_lem a b = record { ends = refl; holds = difference-holds a b }

pub negation_lem : (a : Bounds) → IsNegation a (negation a)
negation_lem a = record { ends = refl; holds = negation-holds a }

pub hull_lem : (a b : Bounds) → IsHull a b (hull_of a b)
hull_lem a b = record { ends = refl; left = hull-left a b; right = hull-right a b }

pub clamped_lem : (a : Bounds) (lo hi : ℤ) → lo ≤ℤ hi → IsClamped a lo hi (clamped a lo hi)
clamped_lem a lo hi o = record { ends = refl; holds = clamped-holds a lo hi o }

pub ruleset operators = (sum_lem, difference_lem, negation_lem, hull_lem)

-- ---- what a body that makes the ends one by one has to show

pub sum_from : {a b r : Bounds} {lo hi low high l h : ℤ} → Some (lo, hi) ≡ a → Some (low, high) ≡ b → r ≡ capped l h
    → l ≡ (lo +ℤ low) → h ≡ (hi +ℤ high) → IsSum a b r
sum_from p q e u v = subst (IsSum _ _) (sym (e ∙ (λ i. capped (u i) (v i)) ∙ (λ i. sum (p i) (q i)))) (sum_lem _ _)

pub difference_from : {a b r : Bounds} {lo hi low high l h : ℤ} → Some (lo, hi) ≡ a → Some (low, high) ≡ b
    → r ≡ capped l h → l ≡ (lo -ℤ high) → h ≡ (hi -ℤ low) → IsDifference a b r
difference_from p q e u v = subst (IsDifference _ _) (sym (e ∙ (λ i. capped (u i) (v i)) ∙ (λ i. difference (p i) (q i)))) (difference_lem _ _)

pub negation_from : {a r : Bounds} {lo hi l h : ℤ} → Some (lo, hi) ≡ a → r ≡ Some (l, h) → l ≡ neg_ℤ hi → h ≡ neg_ℤ lo
    → IsNegation a r
negation_from p e u v = subst (IsNegation _) (sym (e ∙ (λ i. Some (u i, v i)) ∙ (λ i. negation (p i)))) (negation_lem _)

pub hull_from : {a b r : Bounds} {lo hi low high l h : ℤ} → Some (lo, hi) ≡ a → Some (low, high) ≡ b → r ≡ Some (l, h)
    → l ≡ int_min lo low → h ≡ int_max hi high → IsHull a b r
hull_from p q e u v = subst (IsHull _ _) (sym (e ∙ (λ i. Some (u i, v i)) ∙ (λ i. hull_of (p i) (q i)))) (hull_lem _ _)

pub clamped_from : {a r : Bounds} {lo hi l h : ℤ} (low high : ℤ) → low ≤ℤ high → Some (lo, hi) ≡ a → r ≡ capped l h
    → l ≡ clip low high lo → h ≡ clip low high hi → IsClamped a low high r
clamped_from low high o p e u v = subst (IsClamped _ low high) (sym (e ∙ (λ i. capped (u i) (v i)) ∙ (λ i. clamped (p i) low high))) (clamped_lem _ low high o)

pub clamped_all : {a r : Bounds} (low high : ℤ) → low ≤ℤ high → a ≡ None → r ≡ capped low high → IsClamped a low high r
clamped_all low high o p e = subst (IsClamped _ low high) (sym (e ∙ (λ i. clamped (sym p i) low high))) (clamped_lem _ low high o)
