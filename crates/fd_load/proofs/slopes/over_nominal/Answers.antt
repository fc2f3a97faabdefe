use Rattle.std.proofs.Common.{◌*◌, ◌≤◌, ◌^◌, pos, ◌*ℤ◌, arith, FitsSigned}
use Rattle.std.specs.Int.{w128}
use Rattle.std.proofs.lemmas.Int.{to_z-of_z, fits_signed_from_abs, unsigned_abs-mul, ints}
use Rattle.fd_load.proofs.Bounds.{nominal_most}
use Rattle.fd_system.specs.fd_exact.ReadBack.{read_back}
use Rattle.fd_load.proofs.slopes.over_nominal.Goals as goal

pub returns-clause-most : goal.returns-clause-most
returns-clause-most c =
    let l = c.requires.load in
    let v : FitsSigned w128 c.args.v = c.ranges.v in
    let n : FitsSigned w128 (pos 2 *ℤ c.args.v) =
    fits_signed_from_abs w128 (pos 2 *ℤ c.args.v)
    (omega (arith, unsigned_abs-mul (pos 2) c.args.v, c.requires.v_most)) in
    let within = simp to_z-of_z at c.near_units.ensures.within in
    let vn : 5 * 10 ^ 6 ≤ c.unsigned_abs.result = omega (arith, ints, l.nominal_least, c.unsigned_abs.ensures.value) in
    let most = within (2 ^ 60) (nominal_most c.args.v c.unsigned_abs.result c.requires.v_most vn) in
    rw (read_back c.near_units.result (2 ^ 60) most (omega arith)) most
