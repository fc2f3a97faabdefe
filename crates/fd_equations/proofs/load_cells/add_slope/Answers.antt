use Rattle.std.proofs.Common.{◌∙◌, ap, arith}
use Rattle.fd_equations.specs.Amounts.{amount, cell_at, more}
use Rattle.fd_equations.proofs.Growth.{grown_slope, missed_slope}
use Rattle.fd_equations.proofs.Sizes.{kept_by}
use Rattle.fd_equations.proofs.load_cells.add_slope.Goals as goal

pub returns-in-Some : goal.returns-in-Some
returns-in-Some c =
    grown_slope c.args.pattern.now.places c.args.cells.now c.args.row c.args.col c.args.units c.in-Some.k
    c.with_slope.result c.requires.long c.in-Some.ensures.some c.in-Some.ensures.only
    (c.with_slope.ensures
    ∙ ap (λ z. more (cell_at c.args.cells.now c.in-Some.k) (amount z 0 1))
    (kept_by c.args.units (omega (arith, c.requires.units))))

pub returns-in_default : goal.returns-in_default
returns-in_default c = missed_slope c.args.pattern.now.places c.args.cells.now c.args.row c.args.col c.args.units c.in_default.ensures.none
