use Rattle.std.proofs.Common.{◌∙◌, ◌*◌, ◌^◌, pos, ◌-ℤ◌, arith, FitsSigned}
use Rattle.std.specs.Int.{w128}
use Rattle.std.proofs.lemmas.Int.{to_z-of_z, fits_signed_from_abs, ints}
use Rattle.fd_system.specs.fd_exact.ReadBack.{read_back}
use Rattle.fd_load.proofs.Sizes.{turned, turned_largest}
use Rattle.fd_load.proofs.power.quadrature.Goals as goal

pub returns : goal.returns
returns c =
    let w = c.args.load.now in
    let a : FitsSigned w128 w.p = fits_signed_from_abs w128 w.p (omega (arith, c.requires.power)) in
    let b : FitsSigned w128 w.q = fits_signed_from_abs w128 w.q (omega (arith, c.requires.power)) in
    let p : FitsSigned w128 c.args.p = c.ranges.p in
    let q : FitsSigned w128 c.args.q = c.ranges.q in
    let n : FitsSigned w128 (pos 0 -ℤ c.args.p) = fits_signed_from_abs w128 (pos 0 -ℤ c.args.p) (omega (arith, ints, c.requires.p_most)) in
    let e = simp to_z-of_z at c.weighted.ensures.value in
    let most = simp to_z-of_z at c.weighted.ensures.most in
    let small = c.weighted.ensures.small in
    let same = read_back c.weighted.result (10 ^ 9 * (10 ^ 11 * 2 ^ 41)) small (omega arith) in
    record {
      value = same ∙ e ∙ turned (10 ^ 9) w.p w.q c.args.p c.args.q;
      most = rw (same, ← turned_largest c.args.p c.args.q) most;
      small = rw same small;
    }
