-- Whole numbers of units, and the sizes of a quotient's parts, as numbers of 128 bits.
use Rattle.std.proofs.Common.{◌≡◌, ◌∙◌, ◌^◌, ◌<◌, ◌≤◌, ℕ, ℤ, pos, neg_ℤ, Option, Some, None, ◌≤ℤ◌, ◌<ℤ◌, ◌+ℤ◌, ◌-ℤ◌, FitsSigned, to_z, of_z, arith, refl}
use Rattle.std.specs.Int.{w128, int_min, int_max}
use Rattle.std.specs.Int.RustNames.{unsigned_abs}
use Rattle.std.proofs.lemmas.Int.{ints, clamps, to_z-of_z}
use Rattle.fd_arith.specs.Limits.{Fits, within}
use Rattle.fd_arith.specs.Fix.{fix_sum, fix_difference}

-- a number of units is one of 128 bits
units_signed : (x : ℤ) → Fits x → FitsSigned w128 x
units_signed x h = omega (arith, ints, h.0, h.1)

-- the sum and the difference of two numbers of units, as the code has them
module _ (x y : ℤ) (p : Fits x) (q : Fits y) where
  sum : to_z w128 (of_z w128 x) +ℤ to_z w128 (of_z w128 y) ≡ x +ℤ y
  sum = λ i. to_z-of_z w128 x (units_signed x p) i +ℤ to_z-of_z w128 y (units_signed y q) i

  sum_fits : FitsSigned w128 (x +ℤ y)
  sum_fits = omega (arith, ints, p.0, p.1, q.0, q.1)

  pub sum_signed : FitsSigned w128 (to_z w128 (of_z w128 x) +ℤ to_z w128 (of_z w128 y))
  sum_signed = rw sum sum_fits

  pub sum_held : to_z w128 (of_z w128 (to_z w128 (of_z w128 x) +ℤ to_z w128 (of_z w128 y))) ≡ x +ℤ y
  sum_held = (λ i. to_z w128 (of_z w128 (sum i))) ∙ to_z-of_z w128 (x +ℤ y) sum_fits

  difference : to_z w128 (of_z w128 x) -ℤ to_z w128 (of_z w128 y) ≡ x -ℤ y
  difference = λ i. to_z-of_z w128 x (units_signed x p) i -ℤ to_z-of_z w128 y (units_signed y q) i

  difference_fits : FitsSigned w128 (x -ℤ y)
  difference_fits = omega (arith, ints, p.0, p.1, q.0, q.1)

  pub difference_signed : FitsSigned w128 (to_z w128 (of_z w128 x) -ℤ to_z w128 (of_z w128 y))
  difference_signed = rw difference difference_fits

  pub difference_held : to_z w128 (of_z w128 (to_z w128 (of_z w128 x) -ℤ to_z w128 (of_z w128 y))) ≡ x -ℤ y
  difference_held = (λ i. to_z w128 (of_z w128 (difference i))) ∙ to_z-of_z w128 (x -ℤ y) difference_fits

  -- the lesser and the greater of the two
  pub least_held : (m : ℤ) → m ≡ int_min (to_z w128 (of_z w128 x)) (to_z w128 (of_z w128 y))
      → to_z w128 (of_z w128 m) ≡ int_min x y
  least_held m e =
      let d : m ≡ int_min x y =
      e
      ∙ (λ i. int_min (to_z-of_z w128 x (units_signed x p) i) (to_z-of_z w128 y (units_signed y q) i)) in
      let f : FitsSigned w128 m = omega (arith, ints, clamps, d, p.0, p.1, q.0, q.1) in
      to_z-of_z w128 m f ∙ d

  pub greatest_held : (m : ℤ) → m ≡ int_max (to_z w128 (of_z w128 x)) (to_z w128 (of_z w128 y))
      → to_z w128 (of_z w128 m) ≡ int_max x y
  greatest_held m e =
      let d : m ≡ int_max x y =
      e
      ∙ (λ i. int_max (to_z-of_z w128 x (units_signed x p) i) (to_z-of_z w128 y (units_signed y q) i)) in
      let f : FitsSigned w128 m = omega (arith, ints, clamps, d, p.0, p.1, q.0, q.1) in
      to_z-of_z w128 m f ∙ d

  pub least_fits : Fits (int_min x y)
  least_fits = (omega (arith, ints, clamps, p.0, q.0), omega (arith, ints, clamps, p.1, q.1))

  pub greatest_fits : Fits (int_max x y)
  greatest_fits = (omega (arith, ints, clamps, p.0, q.0), omega (arith, ints, clamps, p.1, q.1))

  pub sum_known : {a b r : Option ℤ} → Some x ≡ a → Some y ≡ b
      → r ≡ within (to_z w128 (of_z w128 (to_z w128 (of_z w128 x) +ℤ to_z w128 (of_z w128 y)))) → r ≡ fix_sum a b
  sum_known e f h = h ∙ (λ i. within (sum_held i)) ∙ (λ i. fix_sum (e i) (f i))

  pub difference_known : {a b r : Option ℤ} → Some x ≡ a → Some y ≡ b
      → r ≡ within (to_z w128 (of_z w128 (to_z w128 (of_z w128 x) -ℤ to_z w128 (of_z w128 y))))
      → r ≡ fix_difference a b
  difference_known e f h = h ∙ (λ i. within (difference_held i)) ∙ (λ i. fix_difference (e i) (f i))

-- a number of units with the other sign, as the code has it
module _ (x : ℤ) (p : Fits x) where
  negated : (pos 0 -ℤ to_z w128 (of_z w128 x)) ≡ neg_ℤ x
  negated = (λ i. pos 0 -ℤ to_z-of_z w128 x (units_signed x p) i) ∙ omega (arith, ints)

  pub negated_fits : Fits (neg_ℤ x)
  negated_fits = (omega (arith, ints, p.1), omega (arith, ints, p.0))

  pub negated_signed : FitsSigned w128 (pos 0 -ℤ to_z w128 (of_z w128 x))
  negated_signed = rw negated (units_signed (neg_ℤ x) negated_fits)

  pub negated_held : to_z w128 (of_z w128 (pos 0 -ℤ to_z w128 (of_z w128 x))) ≡ neg_ℤ x
  negated_held =
      (λ i. to_z w128 (of_z w128 (negated i))) ∙ to_z-of_z w128 (neg_ℤ x) (units_signed (neg_ℤ x) negated_fits)

-- two numbers stay in order
pub as_ordered : (a b x y : ℤ) → a ≡ x → b ≡ y → x ≤ℤ y → a ≤ℤ b
as_ordered a b x y e f o = omega (arith, ints)

pub sums_ordered : (lo hi low high : ℤ) → lo ≤ℤ hi → low ≤ℤ high → (lo +ℤ low) ≤ℤ (hi +ℤ high)
sums_ordered lo hi low high p q = omega (arith, ints)

pub differences_ordered : (lo hi low high : ℤ) → lo ≤ℤ hi → low ≤ℤ high → (lo -ℤ high) ≤ℤ (hi -ℤ low)
differences_ordered lo hi low high p q = omega (arith, ints)

pub ends_ordered : (lo hi low high : ℤ) → lo ≤ℤ hi → int_min lo low ≤ℤ int_max hi high
ends_ordered lo hi low high p = omega (arith, ints, clamps)

pub opposites_ordered : (lo hi : ℤ) → lo ≤ℤ hi → neg_ℤ hi ≤ℤ neg_ℤ lo
opposites_ordered lo hi p = omega (arith, ints)

-- nothing is known of a sum or a difference of which one part is not known
no_sum : (a : Option ℤ) → None ≡ fix_sum a None
no_sum (Some x) = refl
no_sum None = refl

no_difference : (a : Option ℤ) → None ≡ fix_difference a None
no_difference (Some x) = refl
no_difference None = refl

pub sum_from_none : {a r : Option ℤ} (b : Option ℤ) → None ≡ a → r ≡ None → r ≡ fix_sum a b
sum_from_none b e h = h ∙ (λ i. fix_sum (e i) b)

pub sum_with_none : {b r : Option ℤ} (a : Option ℤ) → None ≡ b → r ≡ None → r ≡ fix_sum a b
sum_with_none a e h = h ∙ no_sum a ∙ (λ i. fix_sum a (e i))

pub difference_from_none : {a r : Option ℤ} (b : Option ℤ) → None ≡ a → r ≡ None → r ≡ fix_difference a b
difference_from_none b e h = h ∙ (λ i. fix_difference (e i) b)

pub difference_with_none : {b r : Option ℤ} (a : Option ℤ) → None ≡ b → r ≡ None → r ≡ fix_difference a b
difference_with_none a e h = h ∙ no_difference a ∙ (λ i. fix_difference a (e i))

-- the size of a divisor from 1 to 10^32
module _ (d : ℤ) (size : ℕ) (f : FitsSigned w128 d) (e : size ≡ unsigned_abs (to_z w128 (of_z w128 d))) where
  size_is : size ≡ unsigned_abs d
  size_is = e ∙ (λ i. unsigned_abs (to_z-of_z w128 d f i))

  pub size_positive : pos 0 <ℤ d → 0 < size
  size_positive h = omega (arith, ints, size_is)

  pub size_at_most : pos 0 <ℤ d → d ≤ℤ pos (10 ^ 32) → size ≤ 10 ^ 32
  size_at_most h k = omega (arith, ints, size_is)
