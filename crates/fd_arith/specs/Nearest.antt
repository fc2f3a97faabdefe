-- Numbers that may be OUT: quotients to the nearest, products and quotients of bounded whole numbers.
use Rattle.std.proofs.Common.{◌≡◌, ℕ, ℤ, pos, negsuc, neg_ℤ, ◌*ℤ◌, ◌≤ℤ◌, ◌<ℤ◌, ◌+◌, ◌*◌, ◌/◌, ◌≤◌, ◌<◌, ◌^◌, nat_abs, Option, Some, None, Bool, true, false, cond, ◌&&◌, int_le, arith, refl, ap, sym, ◌∙◌, subst}
use Rattle.std.proofs.lemmas.Int.{ints, unsigned_abs-mul}
use Rattle.std.proofs.Math.Nat.{le-div_iff_mul-le, div-le_self}
use Rattle.std.specs.Int.RustNames.{unsigned_abs, FitsSigned}
use Rattle.std.specs.Int.{w128, int_div_euclid}
use Rattle.fd_exact.specs.Rounding.{near_div, floor_div, ceil_div, signed}
use Rattle.fd_exact.specs.Nearest.{near-signed, near_from, near_within}
use Rattle.fd_arith.specs.Limits.{Fits, fits, within, IsUnits, bounded}
use Rattle.fd_arith.specs.Interval.{outward}
use Rattle.fd_arith.specs.Fix.{nearest}
use Rattle.fd_arith.specs.Wide.{wide_product}
use Rattle.fd_arith.specs.Capping.{true-fits, not-fits, fits-true, outward_large, scaled_sign, is_below, bounded-past}

pub within-Fits : (z : ℤ) → Fits z → within z ≡ Some z
unfolding within
within-Fits z f = ap (λ t. cond t (Some z) None) (true-fits z f)

pub within-past : (z : ℤ) → ¬ (Fits z) → within z ≡ None
unfolding within
within-past z f = ap (λ t. cond t (Some z) None) (not-fits z f)

abbrev kept : ℤ → Bool → Option ℤ
kept z t = cond t (Some z) None

pub within-IsUnits : (z : ℤ) → IsUnits (within z)
unfolding within
within-IsUnits z = cases (fits z) refl
  where
    cases : (t : Bool) → fits z ≡ t → IsUnits (kept z (fits z))
    cases true e = let P : Bool → Type 0 = λ t. IsUnits (kept z t) in subst P (sym e) (fits-true z e)
    cases false e = let P : Bool → Type 0 = λ t. IsUnits (kept z t) in subst P (sym e) tt

signed_small : (t : Bool) (n : ℕ) → n ≤ 2 ^ 120 → Fits (signed t n)
signed_small true n h = omega (arith, ints)
signed_small false n h = omega (arith, ints)

signed_large : (t : Bool) (n : ℕ) → 2 ^ 120 < n → ¬ (Fits (signed t n))
signed_large true n h f = omega (arith, ints, f)
signed_large false n h f = omega (arith, ints, f)

module _ (q r d up : ℕ) (h : r < d) (e : 2 * r < d → up ≡ q) (f : d ≤ 2 * r → up ≡ q + 1) (t : Bool) where
  pub nearest_past : 2 ^ 120 < up → None ≡ nearest (signed t (q * d + r)) d
  nearest_past p = sym (ap within (near_from q r d up h e f t) ∙ within-past (signed t up) (signed_large t up p))

  pub nearest_within : (z : ℤ) → up ≤ 2 ^ 120 → z ≡ signed t up → Some z ≡ nearest (signed t (q * d + r)) d
  nearest_within z p w = sym (ap within (near_from q r d up h e f t) ∙ within-Fits (signed t up) (signed_small t up p) ∙ ap Some (sym w))

  pub signed_fits : (z : ℤ) → up ≤ 2 ^ 120 → z ≡ signed t up → Fits z
  signed_fits z p w = subst Fits (sym w) (signed_small t up p)

double : (d : ℕ) → 0 < d → 0 < 2 * d
double d h = omega arith

twice : (m d : ℕ) → 0 < d → m / d * (2 * d) ≤ 2 * m + d
twice m d h = omega arith

pub nearest_large : (t : Bool) (m d : ℕ) → 0 < d → (2 ^ 120 + 2) * d ≤ m → nearest (signed t m) d ≡ None
nearest_large t m d h big =
    let k : 2 ^ 120 + 2 ≤ m / d = (le-div_iff_mul-le h).1 big in
    let q : m / d ≤ (2 * m + d) / (2 * d) = (le-div_iff_mul-le (double d h)).1 (twice m d h) in
    ap within (near-signed t m d) ∙ within-past (signed t ((2 * m + d) / (2 * d))) (signed_large t ((2 * m + d) / (2 * d)) (omega arith))

module _ (q r d up : ℕ) (h : r < d) (e : 2 * r < d → up ≡ q) (f : d ≤ 2 * r → up ≡ q + 1) where
  pub near_negative : (t : Bool) (z : ℤ) → t ≡ true → z ≡ neg_ℤ (pos up) → z ≡ near_div (signed t (q * d + r)) d
  near_negative t z w v = v ∙ sym (ap (λ b. near_div (signed b (q * d + r)) d) w ∙ near_from q r d up h e f true)

  pub near_positive : (t : Bool) (z : ℤ) → t ≡ false → z ≡ pos up → z ≡ near_div (signed t (q * d + r)) d
  near_positive t z w v = v ∙ sym (ap (λ b. near_div (signed b (q * d + r)) d) w ∙ near_from q r d up h e f false)

-- what a body that found no quotient has to show
pub scaled_outward_past : (n d : ℤ) (a b : ℕ) → a ≡ unsigned_abs n → b ≡ unsigned_abs d → 0 < b
    → 2 ^ 126 * b ≤ a * 2 ^ 40 → None ≡ outward (n *ℤ pos (2 ^ 40)) (unsigned_abs d)
scaled_outward_past n d a b e f h k =
    sym (ap (λ z. outward z (unsigned_abs d)) (scaled_sign n)
    ∙ outward_large (is_below n) (unsigned_abs n * 2 ^ 40) (unsigned_abs d) (omega arith) (omega arith))

pub scaled_nearest_past : (n d : ℤ) (a b : ℕ) → a ≡ unsigned_abs n → b ≡ unsigned_abs d → 0 < b
    → 2 ^ 126 * b ≤ a * 2 ^ 40 → None ≡ nearest (n *ℤ pos (2 ^ 40)) (unsigned_abs d)
scaled_nearest_past n d a b e f h k =
    sym (ap (λ z. nearest z (unsigned_abs d)) (scaled_sign n)
    ∙ nearest_large (is_below n) (unsigned_abs n * 2 ^ 40) (unsigned_abs d) (omega arith) (omega arith))

-- what the bodies of `Wide` have to show
pub product_past : {x y r : Option ℤ} {a b : ℤ} → Some a ≡ x → Some b ≡ y → ¬ (FitsSigned w128 (a *ℤ b)) → r ≡ None
    → r ≡ wide_product x y
product_past {a = a} {b = b} p q f e = e ∙ sym ((λ i. wide_product (sym p i) (sym q i)) ∙ within-past (a *ℤ b) (λ w. f (omega (arith, ints, w.0, w.1))))

euclid_is : (z d : ℤ) → pos 0 <ℤ d → int_div_euclid z d ≡ floor_div z (unsigned_abs d)
euclid_is (pos a) (pos d) h = refl
euclid_is (negsuc a) (pos d) h = refl
euclid_is z (negsuc d) h = absurd (omega (arith, ints))

pub ceil_by_euclid : (a d z q r : ℤ) → pos 0 <ℤ d → z ≡ neg_ℤ a → q ≡ int_div_euclid z d → r ≡ neg_ℤ q
    → r ≡ ceil_div a (unsigned_abs d)
ceil_by_euclid a d z q r h e f g = g ∙ ap neg_ℤ (f ∙ ap (λ x. int_div_euclid x d) e ∙ euclid_is (neg_ℤ a) d h)

pub quotient_fits : (z d : ℤ) → Fits z → pos 0 <ℤ d → Fits (int_div_euclid z d)
quotient_fits (pos a) (pos d) f h = omega (arith, ints, div-le_self a d)
quotient_fits (negsuc a) (pos d) f h = omega (arith, ints, div-le_self a d)
quotient_fits z (negsuc d) f h = absurd (omega (arith, ints))

-- ---- the limit 2^100

pub near_large : (t : Bool) (m d : ℕ) → 0 < d → (2 ^ 100 + 2) * d ≤ m → bounded (near_div (signed t m) d) ≡ None
near_large t m d h big =
    let k : 2 ^ 100 + 2 ≤ m / d = (le-div_iff_mul-le h).1 big in
    let q : m / d ≤ (2 * m + d) / (2 * d) = (le-div_iff_mul-le (double d h)).1 (twice m d h) in
    ap bounded (near-signed t m d) ∙ bounded-past (signed t ((2 * m + d) / (2 * d))) (λ w. past t ((2 * m + d) / (2 * d)) (omega arith) w.0 w.1)
  where
    past : (t : Bool) (n : ℕ) → 2 ^ 100 < n → neg_ℤ (pos (2 ^ 100)) ≤ℤ signed t n → signed t n ≤ℤ pos (2 ^ 100) → ⊥
    past true n p l u = omega (arith, ints)
    past false n p l u = omega (arith, ints)

-- ---- what is within 2^100

small-true : (z : ℤ) → nat_abs z ≤ 2 ^ 100 → (int_le (neg_ℤ (pos (2 ^ 100))) z && int_le z (pos (2 ^ 100))) ≡ true
small-true z h = let a : neg_ℤ (pos (2 ^ 100)) ≤ℤ z = omega (arith, ints) in let b : z ≤ℤ pos (2 ^ 100) = omega (arith, ints) in grind (arith, ints)

some_by : (t : Bool) (z : ℤ) → t ≡ true → cond t (Some z) None ≡ Some z
some_by true z e = refl
some_by false z e = absurd cc

pub bounded_some : (z : ℤ) → nat_abs z ≤ 2 ^ 100 → bounded z ≡ Some z
bounded_some z h = some_by (int_le (neg_ℤ (pos (2 ^ 100))) z && int_le z (pos (2 ^ 100))) z (small-true z h)

pub near_size : (n : ℤ) (d k : ℕ) → 0 < d → nat_abs n * 2 ^ 40 ≤ k * d → nat_abs (near_div (n *ℤ pos (2 ^ 40)) d) ≤ k
near_size n d k p h = near_within (n *ℤ pos (2 ^ 40)) d k p (rw (unsigned_abs-mul n (pos (2 ^ 40))) h)

pub near_some : (n : ℤ) (d : ℕ) → 0 < d → nat_abs n * 2 ^ 40 ≤ 2 ^ 100 * d
    → bounded (near_div (n *ℤ pos (2 ^ 40)) d) ≡ Some (near_div (n *ℤ pos (2 ^ 40)) d)
near_some n d p h = bounded_some (near_div (n *ℤ pos (2 ^ 40)) d) (near_size n d (2 ^ 100) p h)
