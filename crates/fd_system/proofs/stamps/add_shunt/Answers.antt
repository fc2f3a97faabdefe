use Rattle.std.proofs.Common.{◌∙◌, ◌++◌, neg_ℤ, FitsSigned, arith}
use Rattle.std.specs.Int.{w128}
use Rattle.std.proofs.lemmas.Int.{to_z-of_z, ints}
use Rattle.fd_system.specs.Contributions.{complex_terms}
use Rattle.fd_system.proofs.ComplexRows.{negated}
use Rattle.fd_system.proofs.Steps.{joined_four}
use Rattle.fd_system.proofs.stamps.add_shunt.Goals as goal

pub returns-clause-items : goal.returns-clause-items
returns-clause-items c =
    let a = c.args in
    let f = a.pair.now.first in
    let s = a.pair.now.second in
    let rl = c.requires.re_fits.least in
    let rm = c.requires.re_fits.most in
    let il = c.requires.im_fits.least in
    let im = c.requires.im_fits.most in
    let nr : FitsSigned w128 (neg_ℤ a.re) = omega (arith, ints) in
    let ni : FitsSigned w128 (neg_ℤ a.im) = omega (arith, ints) in
    let p = to_z-of_z w128 a.re c.ranges.re in
    let q = to_z-of_z w128 a.im c.ranges.im in
    let u = to_z-of_z w128 a.den c.ranges.den in
    let t = negated a.re c.ranges.re nr in
    let v = negated a.im c.ranges.im ni in
    joined_four _ _ _ _ _ _ _ _ _ c.add_complex.ensures.items c.add_complex-2.ensures.items
    c.add_complex-3.ensures.items c.add_complex-4.ensures.items
    ∙ (λ i. a.terms.now.items
    ++ ((complex_terms f f (p i) (q i) (u i) ++ complex_terms f s (t i) (v i) (u i))
    ++ (complex_terms s f (t i) (v i) (u i) ++ complex_terms s s (p i) (q i) (u i))))
