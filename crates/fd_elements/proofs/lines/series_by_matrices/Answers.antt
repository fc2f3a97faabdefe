use Rattle.std.proofs.Common.{◌^◌, sym, subst}
use Rattle.fd_line.specs.Totals.{IsMatrix}
use Rattle.fd_elements.proofs.Given.{is_matrix_given}
use Rattle.fd_elements.proofs.lines.series_by_matrices.Goals as goal

pub returns-clause-within : goal.returns-clause-within
returns-clause-within c =
    let l = c.args.line.now in
    let n = l.phases in
    let range = c.requires.range in (
      subst (IsMatrix n (10 ^ 13)) (sym c.in_ok-r.ensures) (is_matrix_given n (10 ^ 13) l.constants.rmatrix c.requires.r range.constants.rmatrix),
      subst (IsMatrix n (10 ^ 13)) (sym c.in_ok-x.ensures) (is_matrix_given n (10 ^ 13) l.constants.xmatrix c.requires.x range.constants.xmatrix),
    )
