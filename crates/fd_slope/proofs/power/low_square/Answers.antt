use Rattle.std.proofs.Common.{◌*◌}
use Rattle.fd_load.proofs.CallerLemmas.{low_is, low_least, low_most}
use Rattle.fd_slope.proofs.SquareSizes.{square_most, square_fits, low_square_least}
use Rattle.fd_slope.proofs.power.low_square.Goals as goal

pub overflow_mul-result : goal.overflow_mul-result
overflow_mul-result c =
    let w = c.args.load.now in
    let l = c.requires.load in
    square_fits _ _ (low_most w l _ c.unsigned_abs.ensures.value) (low_most w l _ c.unsigned_abs-2.ensures.value)

pub returns : goal.returns
returns c =
    let w = c.args.load.now in
    let l = c.requires.load in
    let first = c.unsigned_abs.ensures.value in
    let second = c.unsigned_abs-2.ensures.value in
    record {
      value = λ i. low_is w l _ first i * low_is w l _ second i;
      least = low_square_least _ _ (low_least w l _ first) (low_least w l _ second);
      most = square_most _ _ (low_most w l _ first) (low_most w l _ second);
    }
