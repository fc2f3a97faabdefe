use Rattle.std.proofs.Common.{◌+◌, ◌^◌, arith}
use Rattle.fd_rungs.proofs.draws.draw_across.Goals as goal

pub draw_at-requires-2-clause-draws : goal.draw_at-requires-2-clause-draws
draw_at-requires-2-clause-draws c = λ place.
    let at = c.draw_at.ensures.size (2 ^ 118) c.requires.draws place in
    omega (arith, at)

pub returns-clause-size : goal.returns-clause-size
returns-clause-size c = λ n h place.
    let at = c.draw_at-2.ensures.size (n + 2 ^ 79) (c.draw_at.ensures.size n h) place in
    omega (arith, at)
