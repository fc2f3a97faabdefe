use Rattle.std.proofs.Common.{◌≡◌, ◌∙◌, ◌+◌, ◌*◌, ◌<◌, ◌≤◌, ◌^◌, ◌+ℤ◌, ◌*ℤ◌, nat_abs, to_z, arith, ap, sym, subst, add-one, FitsSigned, rules}
use Rattle.std.specs.Int.{w64, w128}
use Rattle.std.proofs.lemmas.Int.{to_z-of_z}
use Rattle.fd_equations.specs.fd_exact.States.{part}
use Rattle.fd_equations.specs.fd_exact.Sums.{sum_z}
use Rattle.fd_inject.proofs.Sizes.{sum_kept, sum_size}
use Rattle.fd_inject.proofs.updates.dot.Goals as goal

pub loop-k-preserved : goal.loop-k-preserved
loop-k-preserved c =
    let few : c.loop-k.k < 2 ^ 11 = omega arith in
    let fr : FitsSigned w64 (part c.args.row.now c.loop-k.k) = search rules in
    let fs : FitsSigned w128 (part c.args.residual.now c.loop-k.k) = search rules in
    let p : c.product-sum.result ≡ (part c.args.row.now c.loop-k.k *ℤ part c.args.residual.now c.loop-k.k) = simp to_z-of_z at c.product-sum.ensures.value in
    let sum = to_z w128 c.loop-k.sum-bits in
    let kept = sum_kept sum c.product-sum.result c.loop-k.k c.loop-k.invariant.small few c.product-sum.ensures.small in
    record {
      sum = kept ∙ (λ i. c.loop-k.invariant.sum i +ℤ p i) ∙ ap (sum_z (λ k. part c.args.row.now k *ℤ part c.args.residual.now k)) (sym (add-one c.loop-k.k));
      small = subst (λ z. nat_abs z ≤ (c.loop-k.k + 1) * 2 ^ 114) (sym kept)
          (sum_size sum c.product-sum.result c.loop-k.k c.loop-k.invariant.small c.product-sum.ensures.small);
    }
