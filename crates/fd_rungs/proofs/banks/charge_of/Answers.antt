use Rattle.std.proofs.Common.{◌^◌, pos, arith}
use Rattle.std.proofs.lemmas.Int.{ints}
use Rattle.fd_rungs.proofs.Admittances.{volts_least}
use Rattle.fd_rungs.proofs.banks.charge_of.Goals as goal

pub returns-clause-small : goal.returns-clause-small
returns-clause-small c =
    let least = volts_least c.args.bank.now c.requires in
    let most = c.coefficient.ensures.within (2 ^ 76)
    (omega (arith, ints, least, c.admittance-power.ensures.within, c.admittance-power.ensures.den, c.unsigned_abs.ensures.value)) in
    omega (arith, ints, most)
