use Rattle.std.proofs.Common.{◌*◌, ◌^◌, arith}
use Rattle.fd_slope.proofs.Sizes.{product_most}
use Rattle.fd_slope.proofs.power.square_turned.Goals as goal

pub returns-clause-most : goal.returns-clause-most
returns-clause-most c =
    c.product_up.ensures.within (2 ^ 85) (product_most _ _ (2 ^ 41) (2 ^ 84) (2 ^ 85 * 2 ^ 40)
    (omega (arith, c.part_ratio.ensures.most)) c.moved.ensures.most (omega arith))
