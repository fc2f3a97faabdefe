use Rattle.fd_equations.proofs.Reading.{looked_up}
use Rattle.fd_equations.proofs.cells.cell_in.Goals as goal

pub returns-in-Some : goal.returns-in-Some
returns-in-Some c = λ at are none. looked_up c.args.pattern.now.places c.args.cells.now c.args.row c.args.col c.in-Some.k at c.in-Some.ensures.some are
