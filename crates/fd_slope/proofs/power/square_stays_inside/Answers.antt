use Rattle.std.proofs.Common.{◌∙◌, ◌+◌, nat_le, ◌&&◌}
use Rattle.fd_slope.proofs.power.square_stays_inside.Goals as goal

pub returns : goal.returns
returns c =
    let low = c.low_square.ensures.value in
    let high = c.high_square.ensures.value in
    let moves = c.square_moves.ensures.value in
    let u = c.voltage_square.ensures.value in
    c.stays_between.ensures ∙ (λ i. nat_le (low i + moves i) (u i) && nat_le (u i + moves i) (high i))
