use Rattle.std.proofs.Common.{◌∙◌, ◌+◌, ◌*◌, ◌++◌, ap, sym, neg_ℤ, FitsSigned, rules}
use Rattle.std.specs.Int.{w128}
use Rattle.std.proofs.lemmas.Int.{to_z-of_z}
use Rattle.std.proofs.lemmas.List.{append-nil}
use Rattle.fd_system.specs.Contributions.{one}
use Rattle.fd_system.proofs.ComplexRows.{negated}
use Rattle.fd_system.proofs.Steps.{joined_two}
use Rattle.fd_system.proofs.stamps.add_cross_parts.Goals as goal

pub returns-clause-items : goal.returns-clause-items
returns-clause-items c =
    let a = c.args in
    let f : FitsSigned w128 (neg_ℤ a.num) = search rules in
    let p = to_z-of_z w128 a.num c.ranges.num in
    let n = negated a.num c.ranges.num f in
    let d = to_z-of_z w128 a.den c.ranges.den in
    let s = one (2 * a.r) (2 * a.c + 1) (neg_ℤ a.num) a.den in
    joined_two _ _ _ _ _ c.add_one.ensures.items c.add_one-2.ensures.items
    ∙ (λ i. a.terms.now.items ++ (one (2 * a.r) (2 * a.c + 1) (n i) (d i) ++ one (2 * a.r + 1) (2 * a.c) (p i) (d i)))
    ∙ ap (λ t. a.terms.now.items ++ (s ++ t)) (sym (append-nil (one (2 * a.r + 1) (2 * a.c) a.num a.den)))
