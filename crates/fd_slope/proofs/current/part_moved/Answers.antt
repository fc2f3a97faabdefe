use Rattle.std.proofs.Common.{◌*◌, ◌^◌, arith}
use Rattle.std.proofs.lemmas.Int.{ints}
use Rattle.fd_slope.proofs.Sizes.{product_most}
use Rattle.fd_slope.proofs.current.part_moved.Goals as goal

pub product_up-requires-clause-first : goal.product_up-requires-clause-first
product_up-requires-clause-first c =
    c.at_scale-part.ensures.within (2 ^ 61)
    (omega (arith, c.greatest_part.ensures.most, c.clamped_magnitude.ensures.least, c.requires.load.low_least, ints))

pub returns-clause-most : goal.returns-clause-most
returns-clause-most c = let part = c.at_scale-part.ensures.within (2 ^ 61) (omega (
  arith,
  c.greatest_part.ensures.most,
  c.clamped_magnitude.ensures.least,
  c.requires.load.low_least,
  ints,
)) in
    c.product_up.ensures.within (2 ^ 83) (product_most _ _ (2 ^ 61) (2 ^ 62) (2 ^ 83 * 2 ^ 40) part c.moved.ensures.most (omega arith))
