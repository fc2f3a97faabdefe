use Rattle.fd_equations.proofs.Growth.{grown_as, grown_none}
use Rattle.fd_equations.proofs.LoadCells.{magnitude_row_step, no_magnitude_row_step}
use Rattle.fd_equations.proofs.load_cells.add_magnitude_row.Goals as goal

pub returns-in-Some : goal.returns-in-Some
returns-in-Some c =
    grown_as c.args.pattern.now.places c.args.cells.now c.add_row.new.cells _ _ c.add_row.ensures
    (λ p. magnitude_row_step c.args.load.now c.args.slope c.in-Some.place p c.in-Some.is)

pub returns-in_default : goal.returns-in_default
returns-in_default c =
    grown_as c.args.pattern.now.places c.args.cells.now c.args.cells.now _ _
    (grown_none c.args.pattern.now.places c.args.cells.now)
    (λ p. no_magnitude_row_step c.args.load.now c.args.slope p c.in_default.is)
