use Rattle.std.proofs.Common.{◌*◌}
use Rattle.fd_load.proofs.CallerLemmas.{high_is, high_most}
use Rattle.fd_slope.proofs.SquareSizes.{square_most, square_fits}
use Rattle.fd_slope.proofs.power.high_square.Goals as goal

pub overflow_mul-result : goal.overflow_mul-result
overflow_mul-result c =
    let w = c.args.load.now in
    let l = c.requires.load in
    square_fits _ _ (high_most w l _ c.unsigned_abs.ensures.value) (high_most w l _ c.unsigned_abs-2.ensures.value)

pub returns : goal.returns
returns c =
    let w = c.args.load.now in
    let l = c.requires.load in
    let first = c.unsigned_abs.ensures.value in
    let second = c.unsigned_abs-2.ensures.value in
    record {
      value = λ i. high_is w l _ first i * high_is w l _ second i;
      most = square_most _ _ (high_most w l _ first) (high_most w l _ second);
    }
