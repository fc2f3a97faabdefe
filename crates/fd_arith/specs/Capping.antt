-- Bounds that may pass the limit.
use Rattle.std.proofs.Common.{◌≡◌, ℕ, zero, suc, ℤ, pos, negsuc, neg_ℤ, ◌*ℤ◌, ◌≤ℤ◌, ◌+◌, ◌*◌, ◌/◌, ◌%◌, min, ◌≤◌, ◌<◌, ◌^◌, Some, None, Bool, true, false, cond, arith, refl, ap, sym, ◌∙◌, ◌&&◌}
use Rattle.std.proofs.Math.Nat.{le-div_iff_mul-le}
use Rattle.std.proofs.lemmas.Bool.{and_from}
use Rattle.std.proofs.lemmas.Int.{ints}
use Rattle.fd_exact.specs.Rounding.{floor_div, ceil_div, signed}
use Rattle.fd_arith.specs.Limits.{Fits, fits, bounded}
use Rattle.fd_arith.specs.Interval.{Bounds, Between, capped, outward}
use Rattle.fd_exact.specs.Quotients.{floor_from, ceil_up, floor-neg, ceil-neg, floor-low, floor-high, ceil-high}
use Rattle.fd_arith.specs.Enclosing.{capped-holds}
use Rattle.fd_exact.specs.Order.{scale}
use Rattle.fd_exact.specs.Integers.{neg-mul, next-mul}
use Rattle.std.specs.Prelude.{int_le}
use Rattle.std.specs.Int.RustNames.{unsigned_abs}

pub fits-true : (z : ℤ) → fits z ≡ true → Fits z
fits-true z e = grind (arith, ints)

pub true-fits : (z : ℤ) → Fits z → fits z ≡ true
true-fits z f = grind (arith, ints)

pub same_bool : (b c : Bool) → (b ≡ true → c ≡ true) → (c ≡ true → b ≡ true) → b ≡ c
same_bool true c f g = sym (f refl)
same_bool false true f g = g refl
same_bool false false f g = refl

pub both : (b c : Bool) → (b && c) ≡ true → (b ≡ true) × (c ≡ true)
both true c e = (refl, e)
both false c e = (e, absurd (false_is_not e))
  where
    false_is_not : false ≡ true → ⊥
    false_is_not e = cc

pub not-fits : (z : ℤ) → ¬ (Fits z) → fits z ≡ false
not-fits z f = elim (fits z) as (λ b. fits z ≡ b → fits z ≡ false) [ true ↦ λ e. absurd (f (fits-true z e)) | false ↦ λ e. e ] refl

abbrev kept : ℤ → ℤ → Bool → Bounds
kept lo hi t = cond t (Some (lo, hi)) None

pub capped-within : (lo hi : ℤ) → Fits lo → Fits hi → capped lo hi ≡ Some (lo, hi)
unfolding capped
capped-within lo hi p q = ap (kept lo hi) (and_from _ _ (true-fits lo p) (true-fits hi q))

pub capped-past : (lo hi : ℤ) → ¬ (Fits lo × Fits hi) → capped lo hi ≡ None
unfolding capped
capped-past lo hi f = cases (fits lo && fits hi) refl
  where
    cases : (t : Bool) → (fits lo && fits hi) ≡ t → kept lo hi (fits lo && fits hi) ≡ None
    cases true e = let w = both (fits lo) (fits hi) e in absurd (f (fits-true lo w.0, fits-true hi w.1))
    cases false e = ap (kept lo hi) e

module _ (q r d up : ℕ) (h : r < d) (e : r ≡ 0 → up ≡ q) (f : 0 < r → up ≡ q + 1) where
  pub outward_down : outward (pos (q * d + r)) d ≡ capped (pos q) (pos up)
  outward_down = λ i. capped (floor_from q r d h i) (ceil_up q r d up h e f i)

  pub outward_up : outward (neg_ℤ (pos (q * d + r))) d ≡ capped (neg_ℤ (pos up)) (neg_ℤ (pos q))
  outward_up = λ i.
      capped ((floor-neg (pos (q * d + r)) d ∙ ap neg_ℤ (ceil_up q r d up h e f)) i)
      ((ceil-neg (pos (q * d + r)) d ∙ ap neg_ℤ (floor_from q r d h)) i)

  pub floor_negative : (t : Bool) (z : ℤ) → t ≡ true → z ≡ neg_ℤ (pos up) → z ≡ floor_div (signed t (q * d + r)) d
  floor_negative t z w e' = e' ∙ sym (ap (λ b. floor_div (signed b (q * d + r)) d) w ∙ floor-neg (pos (q * d + r)) d ∙ ap neg_ℤ (ceil_up q r d up h e f))

  pub ceil_positive : (t : Bool) (z : ℤ) → t ≡ false → z ≡ pos up → z ≡ ceil_div (signed t (q * d + r)) d
  ceil_positive t z w e' = e' ∙ sym (ap (λ b. ceil_div (signed b (q * d + r)) d) w ∙ ceil_up q r d up h e f)

  pub outward_past : (t : Bool) → 2 ^ 120 < up → outward (signed t (q * d + r)) d ≡ None
  outward_past true p = outward_up ∙ capped-past (neg_ℤ (pos up)) (neg_ℤ (pos q)) (λ w. omega (arith, ints, w.0))
  outward_past false p = outward_down ∙ capped-past (pos q) (pos up) (λ w. omega (arith, ints, w.1))

  near_up : q ≤ up
  near_up = elim_r r refl
    where
      elim_r : (s : ℕ) → s ≡ r → q ≤ up
      elim_r zero k = omega (arith, e (sym k))
      elim_r (suc s) k = omega (arith, f (omega arith))

  pub outward_negative : (t : Bool) (l k : ℤ) → up ≤ 2 ^ 120 → t ≡ true → l ≡ neg_ℤ (pos up) → k ≡ neg_ℤ (pos q)
      → Some (l, k) ≡ outward (signed t (q * d + r)) d
  outward_negative t l k p w u v =
      sym (ap (λ b. outward (signed b (q * d + r)) d) w ∙ outward_up
      ∙ capped-within (neg_ℤ (pos up)) (neg_ℤ (pos q)) (omega (arith, ints, near_up)) (omega (arith, ints, near_up))
      ∙ sym (λ i. Some (u i, v i)))

  pub outward_positive : (t : Bool) (l k : ℤ) → up ≤ 2 ^ 120 → t ≡ false → l ≡ pos q → k ≡ pos up
      → Some (l, k) ≡ outward (signed t (q * d + r)) d
  outward_positive t l k p w u v =
      sym (ap (λ b. outward (signed b (q * d + r)) d) w ∙ outward_down
      ∙ capped-within (pos q) (pos up) (omega (arith, ints, near_up)) (omega (arith, ints, near_up))
      ∙ sym (λ i. Some (u i, v i)))

pub outward_large : (t : Bool) (m d : ℕ) → 0 < d → (2 ^ 120 + 1) * d ≤ m → outward (signed t m) d ≡ None
outward_large t m d h big =
    let q = m / d in
    let r = m % d in
    let whole : q * d + r ≡ m = omega arith in
    let rest : r < d = omega arith in
    let past : 2 ^ 120 < q + min 1 r = omega (arith, more) in
    ap (λ n. outward (signed t n) d) (sym whole) ∙ outward_past q r d (q + min 1 r) rest (λ e. omega arith) (λ p. omega arith) t past
  where
    more : 2 ^ 120 + 1 ≤ m / d
    more = (le-div_iff_mul-le h).1 big

pub outward-holds : (n : ℤ) (d : ℕ) → 0 < d → Between (outward n d) n d
outward-holds n d h = capped-holds (floor_div n d) (ceil_div n d) n d (floor-low n d h) (ceil-high n d h)

pub point-holds : (u : ℤ) → Between (capped u u) u 1
point-holds u = capped-holds u u u 1 (omega (arith, ints)) (omega (arith, ints))

-- ---- the limit 2^100

abbrev near_limit : ℤ → Bool
near_limit z = int_le (neg_ℤ (pos (2 ^ 100))) z && int_le z (pos (2 ^ 100))

le-true : (a b : ℤ) → int_le a b ≡ true → a ≤ℤ b
le-true a b e = grind (arith, ints)

pub bounded-past : (z : ℤ) → ¬ ((neg_ℤ (pos (2 ^ 100)) ≤ℤ z) × (z ≤ℤ pos (2 ^ 100))) → bounded z ≡ None
bounded-past z f = cases (near_limit z) refl
  where
    cases : (t : Bool) → near_limit z ≡ t → bounded z ≡ None
    cases true e =
        let w = both (int_le (neg_ℤ (pos (2 ^ 100))) z) (int_le z (pos (2 ^ 100))) e in
        absurd (f (le-true (neg_ℤ (pos (2 ^ 100))) z w.0, le-true z (pos (2 ^ 100)) w.1))
    cases false e = ap (λ t. cond t (Some z) None) e

-- a quotient that passes the limit does so rounded either way
pub floor_large : (t : Bool) (m d : ℕ) → 0 < d → (2 ^ 100 + 2) * d ≤ m → bounded (floor_div (signed t m) d) ≡ None
floor_large true m d h big = bounded-past (floor_div (signed true m) d) (λ w. omega (
  arith,
  ints,
  scale (neg_ℤ (pos (2 ^ 100))) (floor_div (signed true m) d) d w.0,
  floor-low (signed true m) d h,
  neg-mul (pos (2 ^ 100)) (pos d),
))
floor_large false m d h big = bounded-past (floor_div (signed false m) d) (λ w. omega (
  arith,
  ints,
  scale (floor_div (signed false m) d) (pos (2 ^ 100)) d w.1,
  floor-high (signed false m) d h,
  next-mul (floor_div (signed false m) d) d,
))

pub ceil_large : (t : Bool) (m d : ℕ) → 0 < d → (2 ^ 100 + 2) * d ≤ m → bounded (ceil_div (signed t m) d) ≡ None
ceil_large t m d h big = bounded-past (ceil_div (signed t m) d) (λ w. by t w.0 w.1)
  where
    by : (t : Bool) → neg_ℤ (pos (2 ^ 100)) ≤ℤ ceil_div (signed t m) d → ceil_div (signed t m) d ≤ℤ pos (2 ^ 100) → ⊥
    by true l u =
        let up : floor_div (pos m) d ≤ℤ pos (2 ^ 100) = omega (arith, ints, ceil-neg (pos m) d) in
        omega (arith, ints, scale (floor_div (pos m) d) (pos (2 ^ 100)) d up, floor-high (pos m) d h, next-mul (floor_div (pos m) d) d)
    by false l u = omega (arith, ints, scale (ceil_div (pos m) d) (pos (2 ^ 100)) d u, ceil-high (pos m) d h)

abbrev pub is_below : ℤ → Bool
is_below (pos n) = false
is_below (negsuc n) = true

pub scaled_sign : (z : ℤ) → (z *ℤ pos (2 ^ 40)) ≡ signed (is_below z) (unsigned_abs z * 2 ^ 40)
scaled_sign (pos n) = refl
scaled_sign (negsuc n) = refl
