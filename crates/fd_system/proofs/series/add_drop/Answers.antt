use Rattle.std.proofs.Common.{◌∙◌, ◌++◌, ◌^◌, pos, neg_ℤ, FitsSigned, arith}
use Rattle.std.specs.Int.{w128}
use Rattle.std.proofs.lemmas.Int.{ints}
use Rattle.fd_system.specs.Contributions.{complex_terms}
use Rattle.fd_system.specs.Terminals.{branch_of}
use Rattle.fd_system.proofs.ComplexRows.{negated}
use Rattle.fd_system.proofs.series.add_drop.Goals as goal

pub returns-clause-items : goal.returns-clause-items
returns-clause-items c =
    let a = c.args in
    let rm = c.requires.r in
    let xm = c.requires.x in
    let nr : FitsSigned w128 (neg_ℤ a.r) = omega (arith, ints) in
    let nx : FitsSigned w128 (neg_ℤ a.x) = omega (arith, ints) in
    let p = negated a.r c.ranges.r nr in
    let q = negated a.x c.ranges.x nx in
    c.add_complex.ensures.items
    ∙ (λ i. a.terms.now.items ++ complex_terms (branch_of a.branch a.k) (branch_of a.branch a.m) (p i) (q i) (pos (10 ^ 12)))
