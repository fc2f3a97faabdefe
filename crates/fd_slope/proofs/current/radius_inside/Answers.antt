use Rattle.std.proofs.Common.{◌*◌, ◌^◌, arith}
use Rattle.fd_slope.proofs.Sizes.{product_most}
use Rattle.fd_slope.proofs.current.radius_inside.Goals as goal

pub returns-clause-most : goal.returns-clause-most
returns-clause-most c =
    c.product_up.ensures.within (2 ^ 100) (product_most _ _ (2 ^ 52) (2 ^ 83) (2 ^ 100 * 2 ^ 40)
    c.admittance_up.ensures.most c.part_moved-turned.ensures.most (omega arith))
