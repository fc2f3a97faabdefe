use Rattle.std.proofs.Common.{◌*◌, ◌^◌, lit<}
use Rattle.std.specs.Int.{w128}
use Rattle.std.proofs.lemmas.Int.{to_z-of_z}
use Rattle.fd_system.specs.fd_exact.ReadBack.{product_fits, product_is, product_room}
use Rattle.fd_load.proofs.zip.product.Goals as goal

pub overflow_mul-result : goal.overflow_mul-result
overflow_mul-result c =
    product_fits c.args.power c.args.share (10 ^ 17) (10 ^ 10) (to_z-of_z w128 _ c.ranges.power)
    (to_z-of_z w128 _ c.ranges.share) c.requires.power c.requires.share (lit< tt)

pub returns-clause-value : goal.returns-clause-value
returns-clause-value c =
    product_is c.args.power c.args.share (10 ^ 17) (10 ^ 10) (to_z-of_z w128 _ c.ranges.power)
    (to_z-of_z w128 _ c.ranges.share) c.requires.power c.requires.share (lit< tt)

pub returns-clause-most : goal.returns-clause-most
returns-clause-most c =
    product_room c.args.power c.args.share (10 ^ 17) (10 ^ 10) (to_z-of_z w128 _ c.ranges.power)
    (to_z-of_z w128 _ c.ranges.share) c.requires.power c.requires.share (lit< tt)
