use Rattle.std.proofs.Common.{◌∙◌, ◌*◌, ◌^◌, pos, ◌*ℤ◌, nat_abs, arith, FitsSigned}
use Rattle.std.specs.Int.{w128}
use Rattle.std.proofs.lemmas.Int.{to_z-of_z, fits_signed_from_abs, unsigned_abs-mul}
use Rattle.fd_load.specs.Current.{power_sum}
use Rattle.fd_load.proofs.Bounds.{admittance_most}
use Rattle.fd_system.specs.fd_exact.ReadBack.{read_back}
use Rattle.fd_load.proofs.slopes.admittance.Goals as goal

pub returns : goal.returns
returns c =
    let l = c.requires.load in
    let w = c.args.load.now in
    let z : FitsSigned w128 c.args.power = c.ranges.power in
    let n : FitsSigned w128 (pos (10 ^ 9) *ℤ c.args.power) =
    fits_signed_from_abs w128 (pos (10 ^ 9) *ℤ c.args.power)
    (omega (arith, unsigned_abs-mul (pos (10 ^ 9)) c.args.power, l.power, c.requires.power)) in
    let e = simp to_z-of_z at c.near_units.ensures.value in
    let within = simp to_z-of_z at c.near_units.ensures.within in
    let most = within (2 ^ 52) (admittance_most c.args.power (power_sum w) (nat_abs w.vlo * nat_abs w.vlo) c.args.d
    c.requires.power l.admittance c.requires.least) in
    let same = read_back c.near_units.result (2 ^ 52) most (omega arith) in
    record { value = same ∙ e; most = rw same most }
