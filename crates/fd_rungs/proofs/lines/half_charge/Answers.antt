use Rattle.std.proofs.Common.{◌^◌, arith}
use Rattle.std.proofs.lemmas.Int.{ints}
use Rattle.fd_rungs.proofs.lines.half_charge.Goals as goal

pub returns-clause-small : goal.returns-clause-small
returns-clause-small c =
    let most = c.coefficient.ensures.within (2 ^ 76) (omega (arith, ints, c.susceptance.ensures.within)) in
    omega (arith, ints, most)
