use Rattle.std.proofs.Common.{◌*◌, ◌^◌, sym, subst}
use Rattle.std.specs.Int.{w128}
use Rattle.std.proofs.lemmas.Int.{to_z-of_z}
use Rattle.dss_model.specs.fd_exact.Ranges.{UpTo}
use Rattle.fd_elements.proofs.Products.{scaled_fits, scaled_room, phase_is, phase_within}
use Rattle.fd_elements.proofs.volts.part_over_root_three.Goals as goal

pub product-requires-clause-part : goal.product-requires-clause-part
product-requires-clause-part c =
    subst (UpTo (2 * 10 ^ 9)) (sym (to_z-of_z w128 c.args.part c.ranges.part)) c.requires.part

pub product-requires-clause-volts : goal.product-requires-clause-volts
product-requires-clause-volts c =
    subst (UpTo (10 ^ 12)) (sym (to_z-of_z w128 c.args.volts c.ranges.volts)) c.requires.volts

pub overflow_mul-product : goal.overflow_mul-product
overflow_mul-product c =
    scaled_fits c.product.result c.args.part c.args.volts c.product.result c.ranges.part c.ranges.volts
    c.product.ensures.value c.product.ensures.most

pub near_quotient-requires-clause-size_fits : goal.near_quotient-requires-clause-size_fits
near_quotient-requires-clause-size_fits c =
    scaled_room c.product.result c.args.part c.args.volts c.product.result c.ranges.part c.ranges.volts
    c.product.ensures.value c.product.ensures.most

pub returns-clause-value : goal.returns-clause-value
returns-clause-value c =
    phase_is c.product.result c.args.part c.args.volts c.near_quotient.result c.ranges.part c.ranges.volts
    c.product.ensures.value c.product.ensures.most c.near_quotient.ensures.value

pub returns-clause-most : goal.returns-clause-most
returns-clause-most c =
    phase_within c.product.result c.args.part c.args.volts c.near_quotient.result c.ranges.part c.ranges.volts
    c.product.ensures.value c.product.ensures.most c.near_quotient.ensures.value
