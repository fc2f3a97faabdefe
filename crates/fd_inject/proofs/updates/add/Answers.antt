use Rattle.std.proofs.Common.{◌∙◌, ◌<◌, ◌≤◌, ◌≢◌, ◌^◌, ◌+ℤ◌, nat_abs, length, arith, ap, sym, subst, below_more, get_or-set_other, get_or-set_same}
use Rattle.fd_equations.specs.fd_exact.States.{part}
use Rattle.fd_inject.proofs.Products.{moved_is}
use Rattle.fd_inject.proofs.Sizes.{added_kept}
use Rattle.fd_inject.proofs.updates.add.Goals as goal

pub loop-k-preserved : goal.loop-k-preserved
loop-k-preserved c =
    let here : c.loop-k.k < length c.loop-k.x = omega arith in
    let inside : c.loop-k.k < length c.args.x.now = omega arith in
    let same = c.loop-k.invariant.left c.loop-k.k (omega arith) in
    let kept = added_kept (part c.loop-k.x c.loop-k.k) (part c.args.update.now c.loop-k.k)
    (subst (λ z. nat_abs z ≤ 2 ^ 40) (sym same) (c.requires.parts c.loop-k.k inside))
    (c.requires.update c.loop-k.k (omega arith)) in
    record {
      done = below_more _ _
          (λ i h. let ne : i ≢ c.loop-k.k = omega arith in rw get_or-set_other (c.loop-k.invariant.done i h))
          (rw get_or-set_same (kept ∙ ap (λ z. z +ℤ part c.args.update.now c.loop-k.k) same));
      left = λ i h. let ne : i ≢ c.loop-k.k = omega arith in rw get_or-set_other (c.loop-k.invariant.left i (omega arith));
    }

pub returns : goal.returns
returns c = moved_is c.args.x.now c.loop-k.x c.args.update.now c.loop-k.k c.loop-k.auto.x (omega arith) c.loop-k.invariant.done
