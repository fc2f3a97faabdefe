use Rattle.std.proofs.Common.{◌*◌, ◌^◌, arith}
use Rattle.fd_slope.proofs.Sizes.{product_most}
use Rattle.fd_slope.proofs.power.radius_with.Goals as goal

pub returns-clause-most : goal.returns-clause-most
returns-clause-most c =
    c.product_up.ensures.within (2 ^ 100) (product_most _ _ (2 ^ 52) (2 ^ 87) (2 ^ 100 * 2 ^ 40)
    c.admittance.ensures.most (omega (arith, c.moved.ensures.most, c.requires.turned)) (omega arith))
