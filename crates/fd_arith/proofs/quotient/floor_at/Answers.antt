use Rattle.std.proofs.Common.{◌≡◌, ◌<◌, ◌^◌, ◌*◌, arith, sym, ◌∙◌, ap, FitsSigned}
use Rattle.std.proofs.lemmas.Int.{ints, to_z-of_z}
use Rattle.std.specs.Int.{w128}
use Rattle.std.specs.Int.RustNames.{unsigned_abs}
use Rattle.fd_arith.specs.Limits.{bounded}
use Rattle.fd_exact.specs.Rounding.{floor_div}
use Rattle.fd_arith.specs.Capping.{floor_large, scaled_sign, is_below}
use Rattle.fd_arith.proofs.SignedUnits.{size_positive, size_at_most}
use Rattle.fd_arith.proofs.quotient.floor_at.Goals as goal

pub returns-in_default : goal.returns-in_default
returns-in_default c =
    let fn : FitsSigned w128 c.args.n = c.ranges.n in
    let fd : FitsSigned w128 c.args.d = c.ranges.d in
    let u = simp to_z-of_z at c.unsigned_abs.ensures.value in
    let v = simp to_z-of_z at c.unsigned_abs-2.ensures.value in
    let positive : 0 < unsigned_abs c.args.d = omega (arith, ints) in
    let large = c.in_default.ensures.large in
    let size : c.unsigned_abs-2.result ≡ unsigned_abs c.args.d = v in
    sym (ap (λ z. bounded (floor_div z (unsigned_abs c.args.d))) (scaled_sign c.args.n)
    ∙ floor_large (is_below c.args.n) (unsigned_abs c.args.n * 2 ^ 40) (unsigned_abs c.args.d) positive (omega (arith, large, u, v)))

pub scaled-requires-clause-positive : goal.scaled-requires-clause-positive
scaled-requires-clause-positive c = size_positive _ _ c.ranges.d c.unsigned_abs-2.ensures.value c.requires.positive

pub scaled-requires-clause-most : goal.scaled-requires-clause-most
scaled-requires-clause-most c =
    size_at_most _ _ c.ranges.d c.unsigned_abs-2.ensures.value c.requires.positive c.requires.most

pub floor_of-requires : goal.floor_of-requires
floor_of-requires c = c.in-Some.ensures.small
