use Rattle.std.proofs.Common.{◌∙◌, sym}
use Rattle.fd_equations.proofs.Growth.{grown_as, grown_none}
use Rattle.fd_equations.proofs.LoadCells.{load_linear, load_other}
use Rattle.fd_equations.proofs.load_cells.add_load.Goals as goal

pub returns-then-not-is_linear : goal.returns-then-not-is_linear
returns-then-not-is_linear c =
    grown_as c.args.pattern.now.places c.args.cells.now c.add_all_rows.new.cells _ _ c.add_all_rows.ensures
    (λ p. load_other c.args.load.now c.args.slopes.now p (sym c.is_linear.ensures ∙ c.if-not-is_linear.true))

pub returns-else-not-is_linear : goal.returns-else-not-is_linear
returns-else-not-is_linear c =
    grown_as c.args.pattern.now.places c.args.cells.now c.args.cells.now _ _
    (grown_none c.args.pattern.now.places c.args.cells.now)
    (λ p. load_linear c.args.load.now c.args.slopes.now p (sym c.is_linear.ensures ∙ c.if-not-is_linear.false))
