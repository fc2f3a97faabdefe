use Rattle.std.proofs.Common.{◌≡◌, ◌^◌, ◌+ℤ◌, ◌*ℤ◌, pos, ap, sym, subst, FitsSigned, rules}
use Rattle.std.specs.Int.{w128}
use Rattle.std.proofs.lemmas.Int.{to_z-of_z}
use Rattle.fd_triangles.specs.fd_derived.fd_factors.fd_exact.Rounding.{near_div}
use Rattle.fd_substitution.proofs.Sizes.{fine_fits, made_fits}
use Rattle.fd_substitution.proofs.numbers.plus_right.Goals as goal

pub returns : goal.returns
returns c =
    let fr : FitsSigned w128 c.args.right = c.ranges.right in
    let fs : FitsSigned w128 c.args.sum = c.ranges.sum in
    let fq : FitsSigned w128 c.near_quotient.result = search rules in
    let value : c.near_quotient.result ≡ near_div c.args.sum (2 ^ 40) =
    simp to_z-of_z at c.near_quotient.ensures.value in
    let fp = fine_fits c.args.right c.requires.right in
    let ft = subst (λ q. FitsSigned w128 (pos (2 ^ 20) *ℤ c.args.right +ℤ q)) (sym value)
    (made_fits c.args.right c.args.sum c.requires.right c.requires.sum) in
    simp to_z-of_z (ap (λ q. pos (2 ^ 20) *ℤ c.args.right +ℤ q) value)
