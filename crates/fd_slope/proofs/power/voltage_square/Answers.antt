use Rattle.std.proofs.Common.{arith, FitsSigned}
use Rattle.std.specs.Int.{w128}
use Rattle.std.proofs.lemmas.Int.{to_z-of_z, fits_signed_from_abs}
use Rattle.fd_slope.proofs.Sizes.{square_most}
use Rattle.fd_slope.proofs.power.voltage_square.Goals as goal

pub returns-clause-most : goal.returns-clause-most
returns-clause-most c =
    let b = c.args.b.now in
    let v = c.requires.around.voltages in
    let p : FitsSigned w128 b.p = fits_signed_from_abs w128 b.p (omega (arith, v.re)) in
    let q : FitsSigned w128 b.q = fits_signed_from_abs w128 b.q (omega (arith, v.im)) in
    let e = simp to_z-of_z at c.square.ensures.value in
    rw e (square_most b.p b.q v.re v.im)
