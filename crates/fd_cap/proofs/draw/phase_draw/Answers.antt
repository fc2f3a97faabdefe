use Rattle.std.proofs.Common.{◌*◌, ◌≤◌, ◌^◌, arith}
use Rattle.std.proofs.lemmas.Int.{ints}
use Rattle.fd_system.specs.fd_exact.Quotients.{ceil_nat_least}
use Rattle.fd_cap.proofs.Bounds.{draw_room, phases_some}
use Rattle.fd_cap.proofs.draw.phase_draw.Goals as goal

pub returns-clause-most : goal.returns-clause-most
returns-clause-most c =
    let v = c.volts.result in
    let n = c.args.cap.now.phases in
    let l = c.power.ensures.within.least in
    let m = c.power.ensures.within.most in
    let p : c.unsigned_abs.result ≤ 10 ^ 20 = omega (arith, ints) in
    let o = draw_room v n c.volts.ensures.least (phases_some c.args.cap.now c.requires) in
    ceil_nat_least c.unsigned_abs.result (v * n) (2 * 10 ^ 13) (omega arith) (omega arith)
