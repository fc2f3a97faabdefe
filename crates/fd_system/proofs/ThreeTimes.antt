-- Three times an entry by sequence values, in numbers of 128 bits.
use Rattle.std.proofs.Common.{◌≡◌, ◌∙◌, ◌^◌, ℤ, pos, neg_ℤ, ◌≤ℤ◌, ◌+ℤ◌, ◌-ℤ◌, ◌*ℤ◌, FitsSigned, to_z, of_z, arith}
use Rattle.std.specs.Int.{w128}
use Rattle.std.proofs.lemmas.Int.{ints, to_z-of_z}
use Rattle.fd_arith.specs.fd_exact.Ranges.{UpTo}

module _ (x y : ℤ) (p : UpTo (10 ^ 16) x) (q : UpTo (10 ^ 16) y) where
  -- each number that the code makes is one of 128 bits
  left : FitsSigned w128 x
  left = omega (arith, ints, p.least, p.most)

  right : FitsSigned w128 y
  right = omega (arith, ints, q.least, q.most)

  double : FitsSigned w128 (pos 2 *ℤ x)
  double = omega (arith, ints, p.least, p.most)

  sum : FitsSigned w128 (pos 2 *ℤ x +ℤ y)
  sum = omega (arith, ints, p.least, p.most, q.least, q.most)

  difference : FitsSigned w128 (y -ℤ x)
  difference = omega (arith, ints, p.least, p.most, q.least, q.most)

  -- twice x
  pub double_signed : FitsSigned w128 (pos 2 *ℤ to_z w128 (of_z w128 x))
  double_signed = rw (to_z-of_z w128 x left) double

  twice : pos 2 *ℤ to_z w128 (of_z w128 x) ≡ pos 2 *ℤ x
  twice = λ i. pos 2 *ℤ to_z-of_z w128 x left i

  doubled : to_z w128 (of_z w128 (pos 2 *ℤ to_z w128 (of_z w128 x))) ≡ pos 2 *ℤ x
  doubled = (λ i. to_z w128 (of_z w128 (twice i))) ∙ to_z-of_z w128 _ double

  summed : to_z w128 (of_z w128 (pos 2 *ℤ to_z w128 (of_z w128 x))) +ℤ to_z w128 (of_z w128 y) ≡ pos 2 *ℤ x +ℤ y
  summed = λ i. doubled i +ℤ to_z-of_z w128 y right i

  -- twice x and y
  pub sum_signed : FitsSigned w128 (to_z w128 (of_z w128 (pos 2 *ℤ to_z w128 (of_z w128 x))) +ℤ to_z w128 (of_z w128 y))
  sum_signed = rw summed sum

  pub sum_is :
      to_z w128 (of_z w128 (to_z w128 (of_z w128 (pos 2 *ℤ to_z w128 (of_z w128 x))) +ℤ to_z w128 (of_z w128 y)))
      ≡ pos 2 *ℤ x +ℤ y
  sum_is = (λ i. to_z w128 (of_z w128 (summed i))) ∙ to_z-of_z w128 _ sum

  subtracted : to_z w128 (of_z w128 y) -ℤ to_z w128 (of_z w128 x) ≡ y -ℤ x
  subtracted = λ i. to_z-of_z w128 y right i -ℤ to_z-of_z w128 x left i

  -- y less x
  pub difference_signed : FitsSigned w128 (to_z w128 (of_z w128 y) -ℤ to_z w128 (of_z w128 x))
  difference_signed = rw subtracted difference

  pub difference_is : to_z w128 (of_z w128 (to_z w128 (of_z w128 y) -ℤ to_z w128 (of_z w128 x))) ≡ y -ℤ x
  difference_is = (λ i. to_z w128 (of_z w128 (subtracted i))) ∙ to_z-of_z w128 _ difference

  -- both lie between - x and 2 x + y
  pub sum_least : neg_ℤ x ≤ℤ (pos 2 *ℤ x +ℤ y)
  sum_least = omega (arith, ints, p.least, q.least)

  pub sum_most : (pos 2 *ℤ x +ℤ y) ≤ℤ (pos 2 *ℤ x +ℤ y)
  sum_most = omega (arith, ints)

  pub difference_least : neg_ℤ x ≤ℤ (y -ℤ x)
  difference_least = omega (arith, ints, q.least)

  pub difference_most : (y -ℤ x) ≤ℤ (pos 2 *ℤ x +ℤ y)
  difference_most = omega (arith, ints, p.least)
