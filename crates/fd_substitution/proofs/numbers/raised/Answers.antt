use Rattle.std.proofs.Common.{◌≡◌, ◌∙◌, ◌<◌, ◌≤◌, ◌^◌, ◌-ℤ◌, ◌*ℤ◌, pos, nat_abs, drop, MatchOption, inl, ap, subst, FitsSigned, rules}
use Rattle.std.specs.Int.{w64, w128}
use Rattle.std.proofs.Math.Facts.{sfits_widen}
use Rattle.std.proofs.lemmas.Int.{to_z-of_z}
use Rattle.fd_triangles.specs.Rows.{entry_at}
use Rattle.fd_triangles.specs.fd_derived.fd_factors.fd_exact.Rounding.{near_over}
use Rattle.fd_triangles.specs.fd_derived.fd_factors.fd_exact.States.{part}
use Rattle.fd_substitution.specs.Sums.{SumIsPast, SumsAreWithin, raised, weighted}
use Rattle.fd_substitution.proofs.Fronts.{made_of, rest_whole}
use Rattle.fd_substitution.proofs.Sizes.{scaled_fits}
use Rattle.fd_substitution.proofs.numbers.raised.Goals as goal

pub returns-in-Some : goal.returns-in-Some
returns-in-Some c =
    let n = c.args.number in
    let pivot = (entry_at c.args.left.now 0).units in
    let x = part c.args.numbers.now in
    let row = drop 1 c.args.left.now in
    let fn : FitsSigned w64 n = c.ranges.number in
    let wn : FitsSigned w128 n = sfits_widen tt c.ranges.number in
    let fp : FitsSigned w128 (pos (2 ^ 40) *ℤ n) = scaled_fits n c.ranges.number in
    let fe : FitsSigned w64 pivot = search rules in
    let fs : FitsSigned w128 c.in-Some.sum = search rules in
    let fv : FitsSigned w128 c.over.result = search rules in
    let whole = rest_whole c.args.left.now in
    let sums : SumsAreWithin (pos (2 ^ 40) *ℤ n) row x = subst (λ l. SumsAreWithin (pos (2 ^ 40) *ℤ n) l x) whole
    (simp to_z-of_z at c.in-Some.ensures.sums) in
    let left : c.in-Some.sum ≡ pos (2 ^ 40) *ℤ n -ℤ weighted row x =
    subst (λ l. c.in-Some.sum ≡ pos (2 ^ 40) *ℤ n -ℤ weighted l x) whole
    (simp to_z-of_z at c.in-Some.ensures.left) in
    let value : c.over.result ≡ near_over c.in-Some.sum pivot = simp to_z-of_z at c.over.ensures.value in
    let h = subst (λ u. MatchOption c.in_range.result (2 ^ 62 < nat_abs u)
    (λ number. (number ≡ u) × (nat_abs u ≤ 2 ^ 62)))
    (to_z-of_z w128 c.over.result fv) c.in_range.ensures in
    made_of (pos (2 ^ 40) *ℤ n) row x (raised n row x pivot) c.over.result c.in_range.result sums
    (value ∙ ap (λ s. near_over s pivot) left) h

pub returns-in-None : goal.returns-in-None
returns-in-None c =
    let n = c.args.number in
    let x = part c.args.numbers.now in
    let fn : FitsSigned w64 n = c.ranges.number in
    let wn : FitsSigned w128 n = sfits_widen tt c.ranges.number in
    let fp : FitsSigned w128 (pos (2 ^ 40) *ℤ n) = scaled_fits n c.ranges.number in
    inl (subst (λ l. SumIsPast (pos (2 ^ 40) *ℤ n) l x) (rest_whole c.args.left.now)
    (simp to_z-of_z at c.in-None.ensures.sums))
