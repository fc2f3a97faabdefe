use Rattle.std.proofs.Common.{◌≡◌, ℤ, pos, subst, sym, ap, ◌∙◌, to_z, of_z, ◌-ℤ◌}
use Rattle.std.specs.Int.{w128, int_div_euclid}
use Rattle.std.specs.Int.RustNames.{unsigned_abs}
use Rattle.std.proofs.lemmas.Int.{to_z-of_z}
use Rattle.fd_arith.specs.Limits.{Fits, within}
use Rattle.fd_arith.specs.Wide.{wide_quotient}
use Rattle.fd_arith.specs.Nearest.{ceil_by_euclid, quotient_fits}
use Rattle.fd_arith.proofs.SignedUnits.{negated_fits, negated_held}
use Rattle.fd_arith.proofs.bounded.Wide.over_up.Goals as goal

pub returns : goal.returns
returns c =
    let a = c.in-Some.a in
    let z : ℤ = to_z w128 (of_z w128 (pos 0 -ℤ to_z w128 (of_z w128 a))) in
    let e = negated_held a c.in-Some.ensures.valid in
    let fz : Fits z = subst Fits (sym e) (negated_fits a c.in-Some.ensures.valid) in
    let q : c.div_euclid.result ≡ int_div_euclid z c.args.d =
    c.div_euclid.ensures
    ∙ ap (int_div_euclid z) (to_z-of_z w128 c.args.d c.ranges.d) in
    let fq : Fits c.div_euclid.result = subst Fits (sym q) (quotient_fits z c.args.d fz c.requires.positive) in
    c.of.ensures
    ∙ ap within (ceil_by_euclid a c.args.d z c.div_euclid.result _ c.requires.positive e q (negated_held _ fq))
    ∙ ap (λ w. wide_quotient w (unsigned_abs c.args.d)) c.in-Some.ensures.number
