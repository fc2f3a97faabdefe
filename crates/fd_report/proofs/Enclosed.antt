-- The size of a complex unknown whose parts are within their radii lies between the least and the greatest one.
use Rattle.std.proofs.Common.{◌≡◌, ℕ, ◌+◌, ◌-◌, ◌*◌, ◌≤◌, ℤ, pos, ◌+ℤ◌, ◌-ℤ◌, ◌*ℤ◌, nat_abs, arith}
use Rattle.std.proofs.lemmas.Int.{ints, unsigned_abs-mul}
use Rattle.std.proofs.Math.Nat.{mul-le-mul_right}
use Rattle.fd_inverse.specs.fd_exact.Integers.{abs_add}
use Rattle.fd_inverse.specs.fd_exact.States.{part}
use Rattle.fd_report.specs.Solutions.{number_at}
use Rattle.fd_report.specs.Sizes.{greatest_part, greatest_size, greatest_square, least_part, least_size, least_square, square}
use Rattle.fd_report.specs.Enclosed.{SizeLaw}
use Rattle.fd_sample.proofs.CallerLemmas.{is_root, is_root_up}

-- ---- a part

again : (z w : ℤ) → z ≡ (z -ℤ w) +ℤ w
again z w = omega (arith, ints)

most : (z c : ℤ) (o r : ℕ) → nat_abs (z -ℤ pos o *ℤ c) ≤ o * r → nat_abs z ≤ o * greatest_part c r
most z c o r h =
    let sum = abs_add (z -ℤ pos o *ℤ c) (pos o *ℤ c) in
    let product = unsigned_abs-mul (pos o) c in
    rw (again z (pos o *ℤ c)) (omega (arith, sum, product, h))

back : (z w : ℤ) → nat_abs w ≤ nat_abs z + nat_abs (z -ℤ w)
back z w = omega (arith, ints)

least : (z c : ℤ) (o r : ℕ) → nat_abs (z -ℤ pos o *ℤ c) ≤ o * r → o * least_part c r ≤ nat_abs z
least z c o r h =
    let product = unsigned_abs-mul (pos o) c in
    let near = back z (pos o *ℤ c) in
    less (nat_abs c) (omega (arith, product, near, h))
  where
    less : (a : ℕ) → o * a ≤ nat_abs z + o * r → o * (a - r) ≤ nat_abs z
    less a k = grind arith

-- ---- sums of squares

in_order : (x y : ℕ) → x ≤ y → square x ≤ square y
in_order x y h = grind arith

scaled_down : (o r a b : ℕ) → r * r ≤ square a + square b → square (o * r) ≤ square (o * a) + square (o * b)
scaled_down o r a b h = let k = mul-le-mul_right (o * o) h in omega (arith, k)

scaled_up : (o r a b : ℕ) → square a + square b ≤ r * r → square (o * a) + square (o * b) ≤ square (o * r)
scaled_up o r a b h = let k = mul-le-mul_right (o * o) h in omega (arith, k)

pub sizes : SizeLaw
unfolding least_size greatest_size
sizes s x k re im = record {
  least = omega (
    arith,
    scaled_down x.over (least_size s k) (least_part c0 r0) (least_part c1 r1) (is_root (least_square s k)).0,
    in_order _ _ (least (part x.parts (2 * k)) c0 x.over r0 re),
    in_order _ _ (least (part x.parts (2 * k + 1)) c1 x.over r1 im),
  );
  greatest = omega (
    arith,
    scaled_up x.over (greatest_size s k) (greatest_part c0 r0) (greatest_part c1 r1) (is_root_up (greatest_square s k)).0,
    in_order _ _ (most (part x.parts (2 * k)) c0 x.over r0 re),
    in_order _ _ (most (part x.parts (2 * k + 1)) c1 x.over r1 im),
  );
}
  where
    c0 : ℤ
    c0 = part s.centre (2 * k)

    c1 : ℤ
    c1 = part s.centre (2 * k + 1)

    r0 : ℕ
    r0 = number_at s.radii (2 * k)

    r1 : ℕ
    r1 = number_at s.radii (2 * k + 1)
