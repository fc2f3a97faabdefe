use Rattle.std.proofs.Common.{◌∙◌, ◌*◌, neg_ℤ, nat_abs, ap, arith}
use Rattle.fd_pattern.specs.fd_load.Slopes.{admittance}
use Rattle.fd_equations.proofs.LoadCells.{start_slopes_are}
use Rattle.fd_equations.proofs.Sizes.{kept_by, negated_kept}
use Rattle.fd_equations.proofs.load_slopes.start_slopes.Goals as goal

pub returns-clause-slopes : goal.returns-clause-slopes
returns-clause-slopes c =
    let w = c.args.load.now in
    let d = nat_abs w.vn * nat_abs w.vn in
    let g = c.admittance-g.ensures in
    let b = c.admittance-b.ensures in
    let p = ap (λ z. admittance z d) (kept_by w.p (omega (arith, c.requires.load.power))) in
    let q = ap (λ z. admittance z d) (kept_by w.q (omega (arith, c.requires.load.power))) in
    start_slopes_are w _ _ _ (kept_by c.admittance-g.result (omega (arith, g.small)) ∙ g.value ∙ p)
    (kept_by c.admittance-b.result (omega (arith, b.small)) ∙ b.value ∙ q)
    (negated_kept c.admittance-b.result (omega (arith, b.small)) ∙ ap neg_ℤ (b.value ∙ q))
