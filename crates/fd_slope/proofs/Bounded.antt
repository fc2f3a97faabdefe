-- Numbers within the limits of quotients and of intervals.
use Rattle.std.proofs.Common.{◌≡◌, ◌∙◌, ℕ, ◌*◌, ◌≤◌, ◌<◌, ◌^◌, ◌/◌, ℤ, pos, neg_ℤ, ◌≤ℤ◌, ◌*ℤ◌, Option, Some, None, to_z, of_z, Bool, true, false, cond, ◌&&◌, int_le, arith, refl, ap}
use Rattle.std.specs.Int.{int_min, int_max, w128}
use Rattle.std.proofs.Math.Nat.{mul-le-mul}
use Rattle.std.proofs.lemmas.Int.{ints, clamps, to_z-of_z, fits_signed_from_abs}
use Rattle.fd_load.specs.fd_exact.Quotients.{ceil_nat_is, ceil_nat_least}
use Rattle.fd_load.specs.fd_exact.Rounding.{ceil_div, ceil_nat, floor_div}
use Rattle.fd_load.specs.fd_arith.Capping.{capped-within}
use Rattle.fd_load.specs.fd_arith.Interval.{capped, product}
use Rattle.fd_load.specs.fd_arith.Limits.{Fits, bounded}

is_small : (n : ℕ) → n ≤ 2 ^ 100 → (int_le (neg_ℤ (pos (2 ^ 100))) (pos n) && int_le (pos n) (pos (2 ^ 100))) ≡ true
is_small n h = let a : neg_ℤ (pos (2 ^ 100)) ≤ℤ pos n = omega (arith, ints) in let b : pos n ≤ℤ pos (2 ^ 100) = omega (arith, ints) in grind (arith, ints)

some_by : (t : Bool) (z : ℤ) → t ≡ true → cond t (Some z) None ≡ Some z
some_by true z e = refl
some_by false z e = absurd cc

natural_some : (n : ℕ) → n ≤ 2 ^ 100 → bounded (pos n) ≡ Some (pos n)
natural_some n h = some_by (int_le (neg_ℤ (pos (2 ^ 100))) (pos n) && int_le (pos n) (pos (2 ^ 100))) (pos n) (is_small n h)

-- a quotient of naturals, rounded up, is within the limit
pub quotient_some : (n d : ℕ) → 0 < d → n * 2 ^ 40 ≤ 2 ^ 99 * d
    → bounded (ceil_div (pos n *ℤ pos (2 ^ 40)) d) ≡ Some (pos (ceil_nat (n * 2 ^ 40) d))
quotient_some n d p h =
    let most = ceil_nat_least (n * 2 ^ 40) d (2 ^ 99) p h in
    ap bounded (ceil_nat_is (n * 2 ^ 40) d p) ∙ natural_some (ceil_nat (n * 2 ^ 40) d) (omega arith)

-- what is in an Option twice is one
pub same_value : {A : Type 0} {o : Option A} {u z : A} → o ≡ Some u → o ≡ Some z → u ≡ z
same_value e f = cc

pub read_natural : (n : ℕ) → n ≤ 2 ^ 119 → to_z w128 (of_z w128 (pos n)) ≡ pos n
read_natural n h = to_z-of_z w128 (pos n) (fits_signed_from_abs w128 (pos n) (omega arith))

pub natural_fits : (n : ℕ) → n ≤ 2 ^ 120 → Fits (pos n)
natural_fits n h = (omega (arith, ints), omega (arith, ints))

pub point_is : (n : ℕ) → n ≤ 2 ^ 120 → capped (pos n) (pos n) ≡ Some (pos n, pos n)
point_is n h = capped-within (pos n) (pos n) (natural_fits n h) (natural_fits n h)

same_min : (z : ℤ) → int_min z z ≡ z
same_min z = omega (arith, ints, clamps)

same_max : (z : ℤ) → int_max z z ≡ z
same_max z = omega (arith, ints, clamps)

-- the greatest product
pub product_most : (x y : ℕ) → x ≤ 2 ^ 61 → y ≤ 2 ^ 98 → x * y ≤ 2 ^ 119 * 2 ^ 40
product_most x y h k = omega (arith, mul-le-mul h k)

-- the product of two points
pub product_is : (x y : ℕ) → x * y ≤ 2 ^ 119 * 2 ^ 40
    → product (Some (pos x, pos x)) (Some (pos y, pos y)) ≡ Some (floor_div (pos (x * y)) (2 ^ 40), pos (ceil_nat (x * y) (2 ^ 40)))
product_is x y h =
    let z = pos x *ℤ pos y in
    let low : int_min (int_min z z) (int_min z z) ≡ z = (λ i. int_min (same_min z i) (same_min z i)) ∙ same_min z in
    let high : int_max (int_max z z) (int_max z z) ≡ z = (λ i. int_max (same_max z i) (same_max z i)) ∙ same_max z in
    let most = ceil_nat_least (x * y) (2 ^ 40) (2 ^ 119) (omega arith) h in
    let least : x * y / 2 ^ 40 ≤ 2 ^ 119 = omega arith in
    (λ i. capped (floor_div (low i) (2 ^ 40)) (ceil_div (high i) (2 ^ 40)))
    ∙ ap (λ u. capped (floor_div (pos (x * y)) (2 ^ 40)) u) (ceil_nat_is (x * y) (2 ^ 40) (omega arith))
    ∙ capped-within (floor_div (pos (x * y)) (2 ^ 40)) (pos (ceil_nat (x * y) (2 ^ 40)))
    (natural_fits (x * y / 2 ^ 40) (omega arith)) (natural_fits (ceil_nat (x * y) (2 ^ 40)) (omega arith))
