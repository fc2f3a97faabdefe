use Rattle.std.proofs.Common.{sym, subst, ◌*◌, ◌^◌}
use Rattle.dss_model.specs.fd_exact.Ranges.{UpTo}
use Rattle.fd_elements.proofs.Products.{part_fits, part_is, part_within}
use Rattle.fd_elements.proofs.volts.product.Goals as goal

pub overflow_mul-result : goal.overflow_mul-result
overflow_mul-result c =
    part_fits c.args.part c.args.volts c.ranges.part c.ranges.volts c.requires.part c.requires.volts

pub returns-clause-value : goal.returns-clause-value
returns-clause-value c =
    part_is c.args.part c.args.volts c.ranges.part c.ranges.volts c.requires.part c.requires.volts

pub returns-clause-most : goal.returns-clause-most
returns-clause-most c =
    let within = part_within c.args.part c.args.volts c.ranges.part c.ranges.volts c.requires.part c.requires.volts in
    subst (UpTo (2 * 10 ^ 9 * 10 ^ 12)) (sym (returns-clause-value c)) within
