use Rattle.std.proofs.Common.{ℕ, ℤ, Option, arith, subst, sym}
use Rattle.fd_equations.specs.Amounts.{AreGrown}
use Rattle.fd_equations.proofs.Growth.{grown_as, grown_none, slope_at}
use Rattle.fd_equations.proofs.LoadCells.{magnitude_in_row, magnitude_step, no_magnitude_step}
use Rattle.fd_equations.proofs.Sizes.{kept_by}
use Rattle.fd_equations.proofs.load_cells.add_magnitude.Goals as goal

pub returns-in-Some : goal.returns-in-Some
returns-in-Some c =
    let ps = c.args.pattern.now.places in
    let cells = c.args.cells.now in
    let units = subst (λ (z : ℤ). AreGrown ps cells c.add_slope.new.cells (slope_at c.args.row c.in-Some.place z))
    (kept_by c.args.units (omega (arith, c.requires.units))) c.add_slope.ensures in
    subst (λ (o : Option ℕ). AreGrown ps cells c.add_slope.new.cells (magnitude_in_row c.args.row o c.args.units)) (sym c.in-Some.is)
    (grown_as ps cells c.add_slope.new.cells _ _ units (magnitude_step c.args.row c.in-Some.place c.args.units))

pub returns-in_default : goal.returns-in_default
returns-in_default c =
    let ps = c.args.pattern.now.places in
    let cells = c.args.cells.now in
    subst (λ (o : Option ℕ). AreGrown ps cells cells (magnitude_in_row c.args.row o c.args.units)) (sym c.in_default.is)
    (grown_as ps cells cells _ _ (grown_none ps cells) (no_magnitude_step c.args.row c.args.units))
