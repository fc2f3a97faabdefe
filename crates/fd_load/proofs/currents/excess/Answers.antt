use Rattle.std.proofs.Common.{◌≡◌, ◌∙◌, ◌*◌, ◌≤◌, ◌^◌, ℤ, ◌-ℤ◌, ◌*ℤ◌, nat_abs, to_z, of_z, arith, FitsSigned}
use Rattle.std.specs.Int.{w128}
use Rattle.std.proofs.lemmas.Int.{to_z-of_z, fits_signed_from_abs, unsigned_abs-mul}
use Rattle.std.proofs.Math.Nat.{mul-le-mul}
use Rattle.fd_system.specs.fd_exact.Integers.{abs_sub}
use Rattle.fd_load.proofs.VoltageSizes.{part_held}
use Rattle.fd_load.proofs.currents.excess.Goals as goal

square_most : (z : ℤ) → nat_abs z ≤ 2 ^ 41 → nat_abs (z *ℤ z) ≤ 2 ^ 41 * 2 ^ 41
square_most z h = let g = mul-le-mul h h in rw (unsigned_abs-mul z z) g

square_fits : (z : ℤ) → nat_abs z ≤ 2 ^ 41 → FitsSigned w128 (z *ℤ z)
square_fits z h = fits_signed_from_abs w128 (z *ℤ z) (omega (arith, square_most z h))

first_fits : (m p : ℤ) → nat_abs m ≤ 2 ^ 41 → nat_abs p ≤ 2 ^ 41 → FitsSigned w128 (m *ℤ m -ℤ p *ℤ p)
first_fits m p h k =
    fits_signed_from_abs w128 (m *ℤ m -ℤ p *ℤ p)
    (omega (arith, abs_sub (m *ℤ m) (p *ℤ p), square_most m h, square_most p k))

last_fits : (m p q : ℤ) → nat_abs m ≤ 2 ^ 41 → nat_abs p ≤ 2 ^ 41 → nat_abs q ≤ 2 ^ 41
    → FitsSigned w128 (m *ℤ m -ℤ p *ℤ p -ℤ q *ℤ q)
last_fits m p q h k l =
    let both = abs_sub (m *ℤ m -ℤ p *ℤ p) (q *ℤ q) in
    let first = abs_sub (m *ℤ m) (p *ℤ p) in
    fits_signed_from_abs w128 (m *ℤ m -ℤ p *ℤ p -ℤ q *ℤ q)
    (omega (arith, both, first, square_most m h, square_most p k, square_most q l))

-- the same of a square and of both differences, as the code has them
square_kept : (z : ℤ) → nat_abs z ≤ 2 ^ 41 → FitsSigned w128 (to_z w128 (of_z w128 z) *ℤ to_z w128 (of_z w128 z))
square_kept z i = rw (part_held z i) (square_fits z i)

square_held : (z : ℤ) → nat_abs z ≤ 2 ^ 41
    → to_z w128 (of_z w128 (to_z w128 (of_z w128 z) *ℤ to_z w128 (of_z w128 z))) ≡ z *ℤ z
square_held z i =
    (λ j. to_z w128 (of_z w128 (part_held z i j *ℤ part_held z i j))) ∙ to_z-of_z w128 (z *ℤ z) (square_fits z i)

module _ (m p q : ℤ) (h : nat_abs m ≤ 2 ^ 41) (k : nat_abs p ≤ 2 ^ 41) (l : nat_abs q ≤ 2 ^ 41) where
  first_kept : FitsSigned w128
      (to_z w128 (of_z w128 (to_z w128 (of_z w128 m) *ℤ to_z w128 (of_z w128 m)))
      -ℤ to_z w128 (of_z w128 (to_z w128 (of_z w128 p) *ℤ to_z w128 (of_z w128 p))))
  first_kept = rw (square_held m h, square_held p k) (first_fits m p h k)

  first_held : to_z w128 (of_z w128
      (to_z w128 (of_z w128 (to_z w128 (of_z w128 m) *ℤ to_z w128 (of_z w128 m)))
      -ℤ to_z w128 (of_z w128 (to_z w128 (of_z w128 p) *ℤ to_z w128 (of_z w128 p))))) ≡ m *ℤ m -ℤ p *ℤ p
  first_held =
      (λ j. to_z w128 (of_z w128 (square_held m h j -ℤ square_held p k j)))
      ∙ to_z-of_z w128 (m *ℤ m -ℤ p *ℤ p) (first_fits m p h k)

  last_kept : FitsSigned w128
      (to_z w128 (of_z w128
      (to_z w128 (of_z w128 (to_z w128 (of_z w128 m) *ℤ to_z w128 (of_z w128 m)))
      -ℤ to_z w128 (of_z w128 (to_z w128 (of_z w128 p) *ℤ to_z w128 (of_z w128 p)))))
      -ℤ to_z w128 (of_z w128 (to_z w128 (of_z w128 q) *ℤ to_z w128 (of_z w128 q))))
  last_kept = rw (first_held, square_held q l) (last_fits m p q h k l)

  last_held : to_z w128 (of_z w128
      (to_z w128 (of_z w128
      (to_z w128 (of_z w128 (to_z w128 (of_z w128 m) *ℤ to_z w128 (of_z w128 m)))
      -ℤ to_z w128 (of_z w128 (to_z w128 (of_z w128 p) *ℤ to_z w128 (of_z w128 p)))))
      -ℤ to_z w128 (of_z w128 (to_z w128 (of_z w128 q) *ℤ to_z w128 (of_z w128 q)))))
      ≡ m *ℤ m -ℤ p *ℤ p -ℤ q *ℤ q
  last_held =
      (λ j. to_z w128 (of_z w128 (first_held j -ℤ square_held q l j)))
      ∙ to_z-of_z w128 (m *ℤ m -ℤ p *ℤ p -ℤ q *ℤ q) (last_fits m p q h k l)

pub overflow_mul-result : goal.overflow_mul-result
overflow_mul-result c =
    let v = c.requires.voltages in
    square_kept c.args.m v.magnitude

pub overflow_mul-result-2 : goal.overflow_mul-result-2
overflow_mul-result-2 c =
    let v = c.requires.voltages in
    square_kept c.args.p v.re

pub overflow_mul-result-3 : goal.overflow_mul-result-3
overflow_mul-result-3 c =
    let v = c.requires.voltages in
    square_kept c.args.q v.im

pub overflow_sub-result : goal.overflow_sub-result
overflow_sub-result c =
    let v = c.requires.voltages in
    first_kept c.args.m c.args.p c.args.q v.magnitude v.re v.im

pub overflow_sub-result-2 : goal.overflow_sub-result-2
overflow_sub-result-2 c =
    let v = c.requires.voltages in
    last_kept c.args.m c.args.p c.args.q v.magnitude v.re v.im

pub returns : goal.returns
returns c =
    let v = c.requires.voltages in
    last_held c.args.m c.args.p c.args.q v.magnitude v.re v.im
