use Rattle.std.proofs.Common.{◌≡◌, ◌∙◌, ◌*◌, nat_abs, length, ap, sym, subst, ◌<◌}
use Rattle.fd_substitution.specs.fd_derived.fd_factors.fd_exact.States.{part}
use Rattle.fd_substitution.specs.fd_derived.fd_factors.fd_exact.SumLaws.{sum_n-same}
use Rattle.fd_substitution.specs.fd_derived.fd_factors.fd_exact.Sums.{sum_n}
use Rattle.fd_substitution.specs.fd_derived.Rows.{row_defect}
use Rattle.fd_bounds.proofs.defects.of_row.Goals as goal

pub returns-clause-sizes : goal.returns-clause-sizes
returns-clause-sizes c r =
    let sums = c.add_defects.new.sums in
    let long : length sums ≡ length c.args.equations.now = c.in_ok-add_defects.ensures.long ∙ c.requires.long in
    c.in_ok-sizes.ensures.sizes r
    ∙ ap (λ n. sum_n (λ j. nat_abs (part sums j) * r j) n) long
    ∙ sum_n-same (λ j. nat_abs (part sums j) * r j) (λ j. nat_abs (row_defect c.args.equations.now c.args.rows.now c.args.row j) * r j) (length c.args.equations.now)
    (λ j l. ap (λ z. nat_abs z * r j) (c.in_ok-add_defects.ensures.defects j (subst (λ n. j < n) (sym c.requires.long) l)))
