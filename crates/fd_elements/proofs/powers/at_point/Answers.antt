use Rattle.std.proofs.Common.{◌*◌, ◌^◌, lit<}
use Rattle.std.specs.Int.{w128}
use Rattle.std.proofs.lemmas.Int.{to_z-of_z}
use Rattle.dss_model.specs.fd_exact.ReadBack.{product_fits, product_is, product_room}
use Rattle.fd_elements.proofs.Products.{size_most, size_up_to}
use Rattle.fd_elements.proofs.powers.at_point.Goals as goal

pub overflow_mul-result : goal.overflow_mul-result
overflow_mul-result c =
    product_fits c.args.total c.args.point (3 * 10 ^ 14) (10 ^ 12) (to_z-of_z w128 _ c.ranges.total)
    (to_z-of_z w128 _ c.ranges.point) (size_most _ _ c.requires.total) (size_up_to _ _ c.requires.point) (lit< tt)

pub returns-clause-value : goal.returns-clause-value
returns-clause-value c =
    product_is c.args.total c.args.point (3 * 10 ^ 14) (10 ^ 12) (to_z-of_z w128 _ c.ranges.total)
    (to_z-of_z w128 _ c.ranges.point) (size_most _ _ c.requires.total) (size_up_to _ _ c.requires.point) (lit< tt)

pub returns-clause-most : goal.returns-clause-most
returns-clause-most c =
    product_room c.args.total c.args.point (3 * 10 ^ 14) (10 ^ 12) (to_z-of_z w128 _ c.ranges.total)
    (to_z-of_z w128 _ c.ranges.point) (size_most _ _ c.requires.total) (size_up_to _ _ c.requires.point) (lit< tt)
