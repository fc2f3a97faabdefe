use Rattle.std.proofs.Common.{◌∙◌, Some, ap, refl}
use Rattle.fd_enclosure.specs.fd_arith.Limits.{within}
use Rattle.fd_enclosure.specs.fd_arith.Wide.{wide_sum}
use Rattle.fd_cert.proofs.Units.{product_read, product_size, sum_fits, sum_kept}
use Rattle.fd_cert.proofs.sums.sum_more.Goals as goal

pub overflow_add-sum : goal.overflow_add-sum
overflow_add-sum c =
    sum_fits c.args.sum c.in-Some.product c.requires (product_size (Some c.in-Some.product) c.args.factor c.args.entry
    c.in-Some.product c.ranges.factor c.ranges.entry c.in-Some.ensures refl)

pub returns-in-Some-clause-sum : goal.returns-in-Some-clause-sum
returns-in-Some-clause-sum c =
    c.value.ensures.number ∙ c.of.ensures
    ∙ ap within (sum_kept c.args.sum c.in-Some.product c.requires (product_size (Some c.in-Some.product) c.args.factor
    c.args.entry c.in-Some.product c.ranges.factor c.ranges.entry c.in-Some.ensures refl))
    ∙ ap (wide_sum (Some c.args.sum)) (product_read (Some c.in-Some.product) c.args.factor c.args.entry
    c.ranges.factor c.ranges.entry c.in-Some.ensures)
