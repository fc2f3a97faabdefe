use Rattle.std.proofs.Common.{◌∙◌, sym, subst}
use Rattle.fd_exact.specs.Fractions.{◌⊕◌, ◌⊖◌, ◌⊗◌}
use Rattle.fd_arith.proofs.cx.Cx.times.Goals as goal

pub returns-clause-real : goal.returns-clause-real
returns-clause-real g c =
    g.met.T.Enclose.minus_is _ _ _ c.sub.ensures
    ∙ (λ i. g.T.Enclose.minus (c.times.ensures i) (c.times-2.ensures i))

pub returns-clause-imaginary : goal.returns-clause-imaginary
returns-clause-imaginary g c =
    g.met.T.Enclose.plus_is _ _ _ c.add.ensures
    ∙ (λ i. g.T.Enclose.plus (c.times-3.ensures i) (c.times-4.ensures i))

pub returns-clause-encloses_real : goal.returns-clause-encloses_real
returns-clause-encloses_real g c = λ x y a b p q h k.
    let scaled = g.met.T.Enclose.scaled_encloses in
    subst (λ r. g.T.Enclose.Encloses r ((x ⊗ a) ⊖ (y ⊗ b))) (sym (returns-clause-real g c))
    (g.met.T.Enclose.minus_encloses _ _ _ _ (scaled _ _ x a p h) (scaled _ _ y b q k))

pub returns-clause-encloses_imaginary : goal.returns-clause-encloses_imaginary
returns-clause-encloses_imaginary g c = λ x y a b p q h k.
    let scaled = g.met.T.Enclose.scaled_encloses in
    subst (λ r. g.T.Enclose.Encloses r ((x ⊗ b) ⊕ (y ⊗ a))) (sym (returns-clause-imaginary g c))
    (g.met.T.Enclose.plus_encloses _ _ _ _ (scaled _ _ x b p k) (scaled _ _ y a q h))
