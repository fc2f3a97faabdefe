use Rattle.std.proofs.Common.{◌≤◌, ◌^◌, nat_abs, sym, subst}
use Rattle.fd_inverse.proofs.Losses.{product_fits, product_is, product_small}
use Rattle.fd_inverse.proofs.rows.product.Goals as goal

pub overflow_mul-result : goal.overflow_mul-result
overflow_mul-result c = product_fits c.args.f c.args.p c.ranges.f c.ranges.p c.requires.entry

pub returns-clause-value : goal.returns-clause-value
returns-clause-value c = product_is c.args.f c.args.p c.ranges.f c.ranges.p c.requires.entry

pub returns-clause-small : goal.returns-clause-small
returns-clause-small c =
    subst (λ z. nat_abs z ≤ 2 ^ 125) (sym (returns-clause-value c))
    (product_small c.args.f c.args.p c.ranges.f c.ranges.p c.requires.entry)
