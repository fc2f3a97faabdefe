use Rattle.std.proofs.Common.{◌∙◌, ◌+ℤ◌, nat_abs, arith, ap, FitsSigned}
use Rattle.std.proofs.lemmas.Int.{ints, to_z-of_z}
use Rattle.std.specs.Int.{w128}
use Rattle.fd_arith.proofs.Halves.{near_by_shift, size_by_shift, shift_fits}
use Rattle.fd_arith.proofs.rounding.near_over_power.Goals as goal

pub returns-clause-value : goal.returns-clause-value
returns-clause-value c =
    let z : FitsSigned w128 c.args.z = c.ranges.z in
    let s = c.half_for.ensures.most in
    let half : FitsSigned w128 c.half_for.result = omega (arith, ints) in
    let sum : FitsSigned w128 (c.args.z +ℤ c.half_for.result) = omega (arith, ints) in
    let shift = shift_fits (c.args.z +ℤ c.half_for.result) c.args.bits sum in
    rw (to_z-of_z w128 c.args.z z, to_z-of_z w128 c.half_for.result half, to_z-of_z w128 _ sum, to_z-of_z w128 _ shift)
    (near_by_shift c.args.z c.half_for.result c.args.bits c.requires.positive (record {
      below = λ h. c.half_for.ensures.below (rw (to_z-of_z w128 c.args.z z) h);
      else = λ h. c.half_for.ensures.above (rw (to_z-of_z w128 c.args.z z) h);
    }))

pub returns-clause-size : goal.returns-clause-size
returns-clause-size c = ap nat_abs (returns-clause-value c) ∙ size_by_shift c.args.z c.args.bits c.requires.positive
