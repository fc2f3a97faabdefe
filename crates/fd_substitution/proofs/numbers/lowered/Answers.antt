use Rattle.std.proofs.Common.{◌≡◌, ◌∙◌, ◌<◌, ◌≤◌, ◌^◌, ◌+ℤ◌, ◌*ℤ◌, pos, nat_abs, MatchOption, subst, FitsSigned, rules}
use Rattle.std.specs.Int.{w128}
use Rattle.std.proofs.lemmas.Int.{to_z-of_z}
use Rattle.fd_triangles.specs.fd_derived.fd_factors.fd_exact.Rounding.{near_div}
use Rattle.fd_triangles.specs.fd_derived.fd_factors.fd_exact.States.{part}
use Rattle.fd_substitution.specs.Sums.{lowered, weighted}
use Rattle.fd_substitution.proofs.Fronts.{made_of}
use Rattle.fd_substitution.proofs.Sizes.{near_turned}
use Rattle.fd_substitution.proofs.numbers.lowered.Goals as goal

pub returns-in-Some : goal.returns-in-Some
returns-in-Some c =
    let row = c.args.others.now in
    let x = part c.args.numbers.now in
    let fr : FitsSigned w128 c.args.right = c.ranges.right in
    let fs : FitsSigned w128 c.in-Some.sum = search rules in
    let fv : FitsSigned w128 c.plus_right.result = search rules in
    let value : c.plus_right.result ≡ pos (2 ^ 20) *ℤ c.args.right +ℤ near_div c.in-Some.sum (2 ^ 40) =
    simp to_z-of_z at c.plus_right.ensures in
    let made : c.plus_right.result ≡ lowered c.args.right row x =
    value ∙ near_turned (pos (2 ^ 20) *ℤ c.args.right) (weighted row x) c.in-Some.sum c.in-Some.ensures.left in
    let h = subst (λ u. MatchOption c.in_range.result (2 ^ 62 < nat_abs u)
    (λ number. (number ≡ u) × (nat_abs u ≤ 2 ^ 62)))
    (to_z-of_z w128 c.plus_right.result fv) c.in_range.ensures in
    made_of (pos 0) row x (lowered c.args.right row x) c.plus_right.result c.in_range.result
    c.in-Some.ensures.sums made h
