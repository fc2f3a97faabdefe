use Rattle.std.proofs.Common.{◌≡◌, ◌∙◌, ℕ, ◌+◌, ◌≤◌, ◌<◌, ◌^◌, ◌-ℤ◌, ◌*ℤ◌, nat_abs, nat_le, true, false, ap, sym, subst, arith, FitsSigned, to_z, rules}
use Rattle.std.specs.Int.{w64, w128}
use Rattle.std.proofs.lemmas.Int.{to_z-of_z}
use Rattle.fd_triangles.specs.Rows.{entry_at}
use Rattle.fd_triangles.specs.fd_derived.fd_factors.fd_exact.States.{part}
use Rattle.fd_substitution.specs.Sums.{left_after}
use Rattle.fd_substitution.proofs.Fronts.{next_left, within_more}
use Rattle.fd_substitution.proofs.Sizes.{sum_fits, sum_past, sum_small}
use Rattle.fd_substitution.proofs.sums.less_products.Goals as goal

pub returns-then-not-is_sum-clause-sums : goal.returns-then-not-is_sum-clause-sums
returns-then-not-is_sum-clause-sums c =
    let i = c.loop-entry.entry-index in
    let row = c.args.row.now in
    let x = part c.args.numbers.now in
    let e = entry_at row i in
    let fs : FitsSigned w128 c.args.start = c.ranges.start in
    let gs = to_z-of_z w128 c.args.start fs in
    let within = subst (λ s. (k : ℕ) → k ≤ i → nat_abs (left_after s row x k) ≤ 2 ^ 120) gs
    c.loop-entry.invariant.sums in
    let left = to_z w128 c.loop-entry.left-bits in
    let was : left ≡ left_after c.args.start row x i =
    c.loop-entry.invariant.left ∙ ap (λ s. left_after s row x i) gs in
    let fl : FitsSigned w128 left =
    sum_fits left (subst (λ z. nat_abs z ≤ 2 ^ 120) (sym was) (within i (omega arith))) in
    let fe : FitsSigned w64 e.units = search rules in
    let fx : FitsSigned w64 (x e.place) = search rules in
    let fz : FitsSigned w128 c.less-left.result = search rules in
    let gz = to_z-of_z w128 c.less-left.result fz in
    let one : c.less-left.result ≡ left -ℤ e.units *ℤ x e.place = simp to_z-of_z at c.less-left.ensures in
    let next : c.less-left.result ≡ left_after c.args.start row x (i + 1) =
    next_left c.args.start row x i c.loop-entry-test.true left c.less-left.result was one in
    let tested : nat_le (nat_abs c.less-left.result) (2 ^ 120) ≡ false =
    ap (λ z. nat_le (nat_abs z) (2 ^ 120)) (sym gz) ∙ sym c.is_sum.ensures ∙ c.if-not-is_sum.true in
    (i + 1, subst (λ z. 2 ^ 120 < nat_abs z) next (sum_past c.less-left.result tested))

pub loop-entry-preserved : goal.loop-entry-preserved
loop-entry-preserved c =
    let i = c.loop-entry.entry-index in
    let row = c.args.row.now in
    let x = part c.args.numbers.now in
    let e = entry_at row i in
    let fs : FitsSigned w128 c.args.start = c.ranges.start in
    let gs = to_z-of_z w128 c.args.start fs in
    let within = subst (λ s. (k : ℕ) → k ≤ i → nat_abs (left_after s row x k) ≤ 2 ^ 120) gs
    c.loop-entry.invariant.sums in
    let left = to_z w128 c.loop-entry.left-bits in
    let was : left ≡ left_after c.args.start row x i =
    c.loop-entry.invariant.left ∙ ap (λ s. left_after s row x i) gs in
    let fl : FitsSigned w128 left =
    sum_fits left (subst (λ z. nat_abs z ≤ 2 ^ 120) (sym was) (within i (omega arith))) in
    let fe : FitsSigned w64 e.units = search rules in
    let fx : FitsSigned w64 (x e.place) = search rules in
    let fz : FitsSigned w128 c.less-left.result = search rules in
    let gz = to_z-of_z w128 c.less-left.result fz in
    let one : c.less-left.result ≡ left -ℤ e.units *ℤ x e.place = simp to_z-of_z at c.less-left.ensures in
    let next : c.less-left.result ≡ left_after c.args.start row x (i + 1) =
    next_left c.args.start row x i c.loop-entry-test.true left c.less-left.result was one in
    let tested : nat_le (nat_abs c.less-left.result) (2 ^ 120) ≡ true =
    ap (λ z. nat_le (nat_abs z) (2 ^ 120)) (sym gz) ∙ sym c.is_sum.ensures ∙ c.if-not-is_sum.false in
    let here = subst (λ z. nat_abs z ≤ 2 ^ 120) next (sum_small c.less-left.result tested) in
    record {
      sums = subst (λ s. (k : ℕ) → k ≤ i + 1 → nat_abs (left_after s row x k) ≤ 2 ^ 120) (sym gs)
          (within_more c.args.start row x i within here);
      left = gz ∙ next ∙ ap (λ s. left_after s row x (i + 1)) (sym gs);
    }
