use Rattle.std.proofs.Common.{◌≡◌, ◌+◌, ◌*◌, ◌<◌, ◌≤◌, ◌^◌, pos, ◌*ℤ◌, nat_abs, arith, rules, FitsSigned}
use Rattle.std.specs.Int.{w128}
use Rattle.std.proofs.lemmas.Int.{ints, to_z-of_z, unsigned_abs-mul}
use Rattle.fd_mat.specs.fd_exact.Rounding.{near_div}
use Rattle.fd_mat.specs.fd_exact.Nearest.{near_covers}
use Rattle.fd_equations.proofs.Sizes.{small_size}
use Rattle.fd_equations.proofs.cells.units.Goals as goal

pub near_units-requires-clause-small : goal.near_units-requires-clause-small
near_units-requires-clause-small c =
    let t = c.args.term.now in
    let num : FitsSigned w128 t.num = search rules in
    let divided : 0 < nat_abs t.den = omega (arith, ints, c.requires.divided.positive) in
    let size = small_size (near_div (t.num *ℤ pos (2 ^ 40)) (nat_abs t.den)) c.requires.within in
    let most : nat_abs (t.num *ℤ pos (2 ^ 40)) ≤ (2 ^ 54 + 1) * nat_abs t.den = near_covers (t.num *ℤ pos (2 ^ 40)) (nat_abs t.den) (2 ^ 54) divided size in
    let same : nat_abs (t.num *ℤ pos (2 ^ 40)) ≡ nat_abs t.num * 2 ^ 40 = unsigned_abs-mul t.num (pos (2 ^ 40)) in
    let d : c.unsigned_abs.result ≡ nat_abs t.den = omega (arith, ints, c.unsigned_abs.ensures.value) in
    rw (to_z-of_z w128 t.num num, d) (omega (arith, most, same))
