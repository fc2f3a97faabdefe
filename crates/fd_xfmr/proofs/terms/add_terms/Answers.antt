use Rattle.std.proofs.Common.{◌≤◌, ◌∙◌, length, ap, sym, subst}
use Rattle.std.specs.List.{All}
use Rattle.fd_system.specs.Contributions.{IsDivided}
use Rattle.fd_system.specs.Equations.{AddsUp}
use Rattle.fd_xfmr.specs.Transformer.{list_by, xfmr_parts}
use Rattle.fd_xfmr.proofs.Transformer.{xfmr_is}
use Rattle.fd_xfmr.proofs.terms.add_terms.Goals as goal

pub returns-clause-list : goal.returns-clause-list
returns-clause-list c = c.add_phases.ensures.list ∙ ap (λ n. list_by n c.args.xfmr.now c.args.at.now) c.coefficients_at-numbers.ensures.coefficients

pub returns-clause-adds_up : goal.returns-clause-adds_up
returns-clause-adds_up c =
    let a = c.args in
    let e = c.add_phases.ensures.list ∙ ap (λ n. list_by n a.xfmr.now a.at.now) c.coefficients_at-numbers.ensures.coefficients in
    subst (λ ts. AddsUp ts (xfmr_parts a.xfmr.now a.taps a.at.now)) (sym e) (xfmr_is a.xfmr.now a.taps a.at.now c.requires.xfmr c.requires.taps).adds_up

pub returns-clause-divided : goal.returns-clause-divided
returns-clause-divided c =
    let a = c.args in
    let e = c.add_phases.ensures.list ∙ ap (λ n. list_by n a.xfmr.now a.at.now) c.coefficients_at-numbers.ensures.coefficients in
    subst (All IsDivided) (sym e) (xfmr_is a.xfmr.now a.taps a.at.now c.requires.xfmr c.requires.taps).divided

pub returns-clause-few : goal.returns-clause-few
returns-clause-few c =
    let a = c.args in
    let e = c.add_phases.ensures.list ∙ ap (λ n. list_by n a.xfmr.now a.at.now) c.coefficients_at-numbers.ensures.coefficients in
    subst (λ ts. length ts ≤ 60) (sym e) (xfmr_is a.xfmr.now a.taps a.at.now c.requires.xfmr c.requires.taps).few
