-- The interval operators on phasors hold the exact ones.
use Rattle.std.proofs.Common.{◌≡◌, ℕ, ◌<◌, ◌^◌, ℤ, pos, negsuc, ◌+ℤ◌, ◌*ℤ◌, ◌≤ℤ◌, nat_abs, refl, arith}
use Rattle.std.proofs.Math.Nat.{mul-pos}
use Rattle.std.proofs.lemmas.Int.{ints}
use Rattle.fd_network.specs.fd_exact.Fractions.{Fraction, fraction, ◌⊕◌, ◌⊖◌, ◌⊗◌, opposite}
use Rattle.fd_network.specs.fd_exact.Order.{scale}
use Rattle.fd_regctl.specs.fd_arith.Interval.{Bounds, Holds, HoldsCoef, sum, difference, negation, product, area_of, square_of}
use Rattle.fd_regctl.specs.fd_arith.Enclosing.{sum-holds, difference-holds, negation-holds}
use Rattle.fd_regctl.specs.fd_arith.Products.{product-holds, area-holds, square-holds}
use Rattle.fd_regctl.specs.fd_arith.Capping.{outward-holds}
use Rattle.fd_regctl.specs.fd_arith.declared.cx.Cx.{Cx}
use Rattle.fd_network.specs.fd_system.Complex.{Complex, ◌⊟◌, ◌⊠◌, negative}
use Rattle.fd_sample.specs.Phasors.{scaled_by, square_size, factor, negative_interval, difference_interval, scaled_interval, product_interval, square_interval}

-- a positive denominator, and held
pub record IsHeld (b : Bounds) (x : Fraction) : Type 0 where
  pub over : 0 < x.over
  pub holds : Holds b x

-- the same of both parts of a complex number
pub record AreHeld (b : Cx Bounds) (z : Complex) : Type 0 where
  pub re : IsHeld b.re z.re
  pub im : IsHeld b.im z.im

-- of a coefficient
pub record IsFactor (b : Bounds) (x : Fraction) : Type 0 where
  pub over : 0 < x.over
  pub holds : HoldsCoef b x

pub factor_held : (n : ℤ) (d : ℕ) → 0 < d → IsFactor (factor n d) (fraction n d)
factor_held n d h = record { over = h; holds = outward-holds (n *ℤ pos (2 ^ 40)) d h }

-- ---- one part

over_sum : (x y : Fraction) → 0 < x.over → 0 < y.over → 0 < (x ⊕ y).over
unfolding ◌⊕◌
over_sum x y h k = mul-pos h k

over_product : (x y : Fraction) → 0 < x.over → 0 < y.over → 0 < (x ⊗ y).over
unfolding ◌⊗◌
over_product x y h k = mul-pos h k

over_opposite : (x : Fraction) → 0 < x.over → 0 < (opposite x).over
unfolding opposite
over_opposite x h = h

pub sum_held : (a b : Bounds) (x y : Fraction) → IsHeld a x → IsHeld b y → IsHeld (sum a b) (x ⊕ y)
sum_held a b x y h k = record { over = over_sum x y h.over k.over; holds = sum-holds a b x y h.holds k.holds }

difference_held : (a b : Bounds) (x y : Fraction) → IsHeld a x → IsHeld b y → IsHeld (difference a b) (x ⊖ y)
difference_held a b x y h k = record {
  over = over_sum x (opposite y) h.over (over_opposite y k.over);
  holds = difference-holds a b x y h.holds k.holds;
}

pub negation_held : (a : Bounds) (x : Fraction) → IsHeld a x → IsHeld (negation a) (opposite x)
negation_held a x h = record { over = over_opposite x h.over; holds = negation-holds a x h.holds }

product_held : (a f : Bounds) (x y : Fraction) → IsHeld a x → IsFactor f y → IsHeld (product a f) (x ⊗ y)
product_held a f x y h k = record { over = over_product x y h.over k.over; holds = product-holds a f x y h.holds k.holds }

pub area_held : (a b : Bounds) (x y : Fraction) → IsHeld a x → IsHeld b y → IsHeld (area_of a b) (x ⊗ y)
area_held a b x y h k = record { over = over_product x y h.over k.over; holds = area-holds a b x y h.holds k.holds }

square_held : (a : Bounds) (x : Fraction) → IsHeld a x → IsHeld (square_of a) (x ⊗ x)
square_held a x h = record { over = over_product x x h.over h.over; holds = square-holds a x h.holds }

-- ---- both

pub negative_held : (b : Cx Bounds) (z : Complex) → AreHeld b z → AreHeld (negative_interval b) (negative z)
negative_held b z h = record { re = negation_held b.re z.re h.re; im = negation_held b.im z.im h.im }

pub less_held : (a b : Cx Bounds) (y z : Complex) → AreHeld a y → AreHeld b z
    → AreHeld (difference_interval a b) (y ⊟ z)
less_held a b y z h k = record {
  re = difference_held a.re b.re y.re z.re h.re k.re;
  im = difference_held a.im b.im y.im z.im h.im k.im;
}

pub scaled_held : (b : Cx Bounds) (f : Bounds) (z : Complex) (x : Fraction) → AreHeld b z → IsFactor f x
    → AreHeld (scaled_interval b f) (scaled_by z x)
scaled_held b f z x h k = record { re = product_held b.re f z.re x h.re k; im = product_held b.im f z.im x h.im k }

pub times_held : (b : Cx Bounds) (r x : Bounds) (z w : Complex) → AreHeld b z → IsFactor r w.re → IsFactor x w.im →
    AreHeld (product_interval b r x) (z ⊠ w)
times_held b r x z w h k l = record {
  re = difference_held (product b.re r) (product b.im x) (z.re ⊗ w.re) (z.im ⊗ w.im)
      (product_held b.re r z.re w.re h.re k) (product_held b.im x z.im w.im h.im l);
  im = sum_held (product b.re x) (product b.im r) (z.re ⊗ w.im) (z.im ⊗ w.re)
      (product_held b.re x z.re w.im h.re l) (product_held b.im r z.im w.re h.im k);
}

pub square_size_held : (b : Cx Bounds) (z : Complex) → AreHeld b z → IsHeld (square_interval b) (square_size z)
square_size_held b z h = sum_held (square_of b.re) (square_of b.im) (z.re ⊗ z.re) (z.im ⊗ z.im)
    (square_held b.re z.re h.re) (square_held b.im z.im h.im)

-- ---- the square of a magnitude isn't negative

square_up : (z : ℤ) → pos 0 ≤ℤ (z *ℤ z)
square_up (pos n) = omega (arith, ints)
square_up (negsuc n) = omega (arith, ints)

scaled_up : (z : ℤ) (k : ℕ) → pos 0 ≤ℤ z → pos 0 ≤ℤ (z *ℤ pos k)
scaled_up z k h = omega (arith, ints, scale (pos 0) z k h)

size_back : (z : ℤ) → pos 0 ≤ℤ z → z ≡ pos (nat_abs z)
size_back (pos n) h = refl
size_back (negsuc n) h = absurd (omega (arith, ints))

both_up : (a b : ℤ) → pos 0 ≤ℤ a → pos 0 ≤ℤ b → pos 0 ≤ℤ (a +ℤ b)
both_up a b h k = omega (arith, ints)

pub square_top : (z : Complex) → (square_size z).top ≡ pos (nat_abs (square_size z).top)
unfolding ◌⊕◌ ◌⊗◌
square_top z = size_back _ (both_up _ _
    (scaled_up _ _ (square_up z.re.top))
    (scaled_up _ _ (square_up z.im.top)))
