use Rattle.std.proofs.Common.{◌≡◌, ◌∙◌, ℕ, ◌+◌, ◌*◌, ℤ, List, ◌++◌, append_assoc, ap, neg_ℤ, FitsSigned, rules}
use Rattle.std.specs.Int.{w128}
use Rattle.std.proofs.lemmas.Int.{to_z-of_z}
use Rattle.fd_arith.specs.declared.terms.Term.{Term}
use Rattle.fd_arith.specs.declared.terms.NodeAt.TheVariants.{Node}
use Rattle.fd_system.specs.Contributions.{one, complex_terms}
use Rattle.fd_system.proofs.ComplexRows.{negated}
use Rattle.fd_system.proofs.stamps.add_four.Goals as goal

four_more : (o n1 n2 n3 n4 : List Term) (r c : ℕ) (re re' im im' minus den den' : ℤ)
    → n1 ≡ o ++ one (2 * r) (2 * c) re' den' → n2 ≡ n1 ++ one (2 * r) (2 * c + 1) minus den'
    → n3 ≡ n2 ++ one (2 * r + 1) (2 * c) im' den' → n4 ≡ n3 ++ one (2 * r + 1) (2 * c + 1) re' den'
    → re' ≡ re → im' ≡ im → minus ≡ neg_ℤ im → den' ≡ den
    → n4 ≡ o ++ complex_terms (Node r) (Node c) re im den
four_more o n1 n2 n3 n4 r c re re' im im' minus den den' e1 e2 e3 e4 p q s t =
    rw (← p, ← t, ← s, ← q) (e4 ∙ ap (λ s. s ++ one (2 * r + 1) (2 * c + 1) re' den')
    (e3 ∙ ap (λ s. s ++ one (2 * r + 1) (2 * c) im' den') (e2 ∙ ap (λ s. s ++ one (2 * r) (2 * c + 1) minus den') e1))
    ∙ simp append_assoc)

pub returns-clause-items : goal.returns-clause-items
returns-clause-items c =
    let f : FitsSigned w128 (neg_ℤ c.args.im) = search rules in
    four_more _ _ _ _ _ c.args.r c.args.c c.args.re _ c.args.im _ _ c.args.den _
    c.add_one.ensures.items c.add_one-2.ensures.items c.add_one-3.ensures.items c.add_one-4.ensures.items
    (to_z-of_z w128 c.args.re c.ranges.re) (to_z-of_z w128 c.args.im c.ranges.im) (negated c.args.im c.ranges.im f) (to_z-of_z w128 c.args.den c.ranges.den)
