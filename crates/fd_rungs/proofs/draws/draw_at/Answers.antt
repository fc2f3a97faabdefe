use Rattle.std.proofs.Common.{◌+◌, ◌^◌, arith}
use Rattle.fd_rungs.proofs.draws.draw_at.Goals as goal

pub returns-in-Node-clause-size : goal.returns-in-Node-clause-size
returns-in-Node-clause-size c = λ n h place.
    let at = c.add_at-in-Node.ensures.size (n + 2 ^ 78) (c.add_at.ensures.size n h) place in
    omega (arith, at)
