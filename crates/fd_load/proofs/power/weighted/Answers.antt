use Rattle.std.proofs.Common.{◌+◌, ◌*◌, ◌≤◌, ◌^◌, ℤ, pos, ◌+ℤ◌, ◌*ℤ◌, nat_abs, arith, refl, FitsSigned}
use Rattle.std.specs.Int.{w128}
use Rattle.std.proofs.lemmas.Int.{to_z-of_z, fits_signed_mul, fits_signed_from_abs}
use Rattle.std.proofs.Math.Nat.{mul-le-mul}
use Rattle.fd_load.specs.Current.{largest}
use Rattle.fd_load.proofs.Sizes.{sum_most, times_most}
use Rattle.fd_load.proofs.power.weighted.Goals as goal

module _ (a b x y : ℤ) (h : nat_abs a + nat_abs b ≤ 10 ^ 11) (hx : nat_abs x ≤ 2 ^ 41) (hy : nat_abs y ≤ 2 ^ 41) where
  total : nat_abs (a *ℤ x +ℤ b *ℤ y) ≤ 10 ^ 11 * 2 ^ 41
  total =
      let k : largest x y ≤ 2 ^ 41 = omega arith in
      let g = mul-le-mul h k in
      omega (arith, sum_most a b x y, g)

  first_fits : FitsSigned w128 (a *ℤ x)
  first_fits = fits_signed_mul w128 a x (10 ^ 11) (2 ^ 41) (omega arith) hx (omega arith)

  second_fits : FitsSigned w128 (b *ℤ y)
  second_fits = fits_signed_mul w128 b y (10 ^ 11) (2 ^ 41) (omega arith) hy (omega arith)

  total_fits : FitsSigned w128 (a *ℤ x +ℤ b *ℤ y)
  total_fits = fits_signed_from_abs w128 _ (omega (arith, total))

  result_fits : FitsSigned w128 (pos (10 ^ 9) *ℤ (a *ℤ x +ℤ b *ℤ y))
  result_fits = fits_signed_from_abs w128 _ (omega (arith, times_most (10 ^ 9) (a *ℤ x +ℤ b *ℤ y) (10 ^ 11 * 2 ^ 41) total))

pub overflow_mul-result : goal.overflow_mul-result
overflow_mul-result c =
    let a : FitsSigned w128 c.args.a = c.ranges.a in
    let x : FitsSigned w128 c.args.x = c.ranges.x in
    simp to_z-of_z (first_fits c.args.a c.args.b c.args.x c.args.y c.requires.powers c.requires.x_most c.requires.y_most)

pub overflow_mul-result-2 : goal.overflow_mul-result-2
overflow_mul-result-2 c =
    let b : FitsSigned w128 c.args.b = c.ranges.b in
    let y : FitsSigned w128 c.args.y = c.ranges.y in
    simp to_z-of_z (second_fits c.args.a c.args.b c.args.x c.args.y c.requires.powers c.requires.x_most c.requires.y_most)

pub overflow_add-result : goal.overflow_add-result
overflow_add-result c =
    let a : FitsSigned w128 c.args.a = c.ranges.a in
    let b : FitsSigned w128 c.args.b = c.ranges.b in
    let x : FitsSigned w128 c.args.x = c.ranges.x in
    let y : FitsSigned w128 c.args.y = c.ranges.y in
    let f = first_fits c.args.a c.args.b c.args.x c.args.y c.requires.powers c.requires.x_most c.requires.y_most in
    let g = second_fits c.args.a c.args.b c.args.x c.args.y c.requires.powers c.requires.x_most c.requires.y_most in
    simp to_z-of_z (total_fits c.args.a c.args.b c.args.x c.args.y c.requires.powers c.requires.x_most c.requires.y_most)

pub overflow_mul-result-3 : goal.overflow_mul-result-3
overflow_mul-result-3 c =
    let a : FitsSigned w128 c.args.a = c.ranges.a in
    let b : FitsSigned w128 c.args.b = c.ranges.b in
    let x : FitsSigned w128 c.args.x = c.ranges.x in
    let y : FitsSigned w128 c.args.y = c.ranges.y in
    let f = first_fits c.args.a c.args.b c.args.x c.args.y c.requires.powers c.requires.x_most c.requires.y_most in
    let g = second_fits c.args.a c.args.b c.args.x c.args.y c.requires.powers c.requires.x_most c.requires.y_most in
    let s = total_fits c.args.a c.args.b c.args.x c.args.y c.requires.powers c.requires.x_most c.requires.y_most in
    simp to_z-of_z (result_fits c.args.a c.args.b c.args.x c.args.y c.requires.powers c.requires.x_most c.requires.y_most)

pub returns : goal.returns
returns c =
    let a : FitsSigned w128 c.args.a = c.ranges.a in
    let b : FitsSigned w128 c.args.b = c.ranges.b in
    let x : FitsSigned w128 c.args.x = c.ranges.x in
    let y : FitsSigned w128 c.args.y = c.ranges.y in
    let f = first_fits c.args.a c.args.b c.args.x c.args.y c.requires.powers c.requires.x_most c.requires.y_most in
    let g = second_fits c.args.a c.args.b c.args.x c.args.y c.requires.powers c.requires.x_most c.requires.y_most in
    let s = total_fits c.args.a c.args.b c.args.x c.args.y c.requires.powers c.requires.x_most c.requires.y_most in
    let r = result_fits c.args.a c.args.b c.args.x c.args.y c.requires.powers c.requires.x_most c.requires.y_most in
    record {
      value = simp to_z-of_z refl;
      most = simp to_z-of_z (times_most (10 ^ 9) (c.args.a *ℤ c.args.x +ℤ c.args.b *ℤ c.args.y)
          ((nat_abs c.args.a + nat_abs c.args.b) * largest c.args.x c.args.y)
          (sum_most c.args.a c.args.b c.args.x c.args.y));
      small = simp to_z-of_z (times_most (10 ^ 9) (c.args.a *ℤ c.args.x +ℤ c.args.b *ℤ c.args.y) (10 ^ 11 * 2 ^ 41)
          (total c.args.a c.args.b c.args.x c.args.y c.requires.powers c.requires.x_most c.requires.y_most));
    }
