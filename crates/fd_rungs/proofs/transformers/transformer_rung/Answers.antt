use Rattle.std.proofs.Common.{◌≤◌, ◌*◌, ◌^◌, pos, ◌≤ℤ◌, nat_abs, subst, sym}
use Rattle.fd_xfmr.specs.declared.leakage.Coefficients.{Coefficients}
use Rattle.fd_rungs.proofs.Admittances.{over_least, ratio_most}
use Rattle.fd_rungs.proofs.transformers.transformer_rung.Goals as goal

pub branches_by-requires-clause-ratio : goal.branches_by-requires-clause-ratio
branches_by-requires-clause-ratio c =
    subst (λ (n : Coefficients). nat_abs n.ratio ≤ 10 ^ 12 * 200000) (sym c.coefficients_at.ensures.coefficients)
    (ratio_most c.args.xfmr.now c.args.taps c.requires.xfmr c.requires.taps)

pub branches_by-requires-clause-over : goal.branches_by-requires-clause-over
branches_by-requires-clause-over c =
    subst (λ (n : Coefficients). pos 28865000000 ≤ℤ n.ratio_over) (sym c.coefficients_at.ensures.coefficients)
    (over_least c.args.xfmr.now c.args.taps c.requires.xfmr c.requires.taps)
