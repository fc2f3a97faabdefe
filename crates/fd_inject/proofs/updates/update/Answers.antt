use Rattle.std.proofs.Common.{◌≡◌, ◌∙◌, ◌≤◌, ◌^◌, ◌++◌, ◌∷◌, [], pos, ◌-ℤ◌, neg_ℤ, nat_abs, length, to_z, of_z, arith, ap, sym, subst}
use Rattle.std.specs.Int.{w128}
use Rattle.fd_equations.specs.fd_exact.Rounding.{near_div}
use Rattle.fd_equations.proofs.CallerLemmas.{length-list_of, list_of-more}
use Rattle.fd_inject.specs.Ranges.{SizesWithin}
use Rattle.fd_inject.specs.Updates.{dot, update_at}
use Rattle.fd_inject.proofs.Products.{row_small, small_more, small_none, update_is}
use Rattle.fd_inject.proofs.Sizes.{kept_by, negated_kept, negated_size}
use Rattle.fd_inject.proofs.updates.update.Goals as goal

pub loop-row-init : goal.loop-row-init
loop-row-init c = record { made = c.in_ok-update.ensures.items; small = subst (SizesWithin (2 ^ 86)) (sym c.in_ok-update.ensures.items) (small_none (2 ^ 86)) }

pub dot-requires-clause-entries : goal.dot-requires-clause-entries
dot-requires-clause-entries c =
    row_small c.args.inverse.now c.loop-row.row (2 ^ 56) c.row.result.now c.requires.entries (omega arith)
    c.row.ensures.numbers c.row.ensures.long

pub loop-row-preserved : goal.loop-row-preserved
loop-row-preserved c =
    let d : c.dot.result ≡ dot c.row.result.now c.args.residual.now = c.dot.ensures.value in
    let small : nat_abs c.dot.result ≤ 2 ^ 125 = c.dot.ensures.small in
    let near : c.near_over_coef.result ≡ near_div (dot c.row.result.now c.args.residual.now) (2 ^ 40) =
    c.near_over_coef.ensures.value ∙ ap (λ z. near_div z (2 ^ 40)) (kept_by c.dot.result (omega arith) ∙ d) in
    let nearest : nat_abs c.near_over_coef.result ≤ 2 ^ 86 = omega (arith, c.near_over_coef.ensures.size, ap nat_abs (kept_by c.dot.result (omega arith))) in
    let kept = negated_kept c.near_over_coef.result nearest in
    let value = kept ∙ ap neg_ℤ (near ∙ ap (λ xs. near_div (dot xs c.args.residual.now) (2 ^ 40)) c.row.ensures.numbers) in
    let size = subst (λ z. nat_abs z ≤ 2 ^ 86) (sym kept) (negated_size c.near_over_coef.result nearest) in
    record {
      made = c.in_ok-push.ensures.items
          ∙ (λ i. c.loop-row.invariant.made i ++ value i ∷ [])
          ∙ sym (list_of-more c.loop-row.row (update_at c.args.inverse.now c.args.residual.now));
      small = small_more (2 ^ 86) c.loop-row.update.items c.push.new.self.items
          (to_z w128 (of_z w128 (pos 0 -ℤ to_z w128 (of_z w128 c.near_over_coef.result)))) c.in_ok-push.ensures.items
          size c.loop-row.invariant.small;
    }

pub returns-clause-update : goal.returns-clause-update
returns-clause-update c = update_is c.args.inverse.now c.args.residual.now c.loop-row.update.items c.loop-row.row (omega arith) c.loop-row.invariant.made

pub returns-clause-long : goal.returns-clause-long
returns-clause-long c = ap length c.loop-row.invariant.made ∙ length-list_of c.loop-row.row (update_at c.args.inverse.now c.args.residual.now) ∙ omega arith
