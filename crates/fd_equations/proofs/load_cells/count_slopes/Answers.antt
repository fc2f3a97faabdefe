use Rattle.std.proofs.Common.{arith, get_or, subst}
use Rattle.fd_pattern.specs.fd_load.declared.slopes.Slopes.{Slopes}
use Rattle.fd_equations.specs.Amounts.{AreGrown, of_load}
use Rattle.fd_equations.specs.PartLoads.{no_slopes}
use Rattle.fd_equations.specs.Slopes.{AreSlopes}
use Rattle.fd_equations.proofs.LoadCells.{loads_grown, next_load, room_yet}
use Rattle.fd_equations.proofs.LoadSums.{no_load}
use Rattle.fd_equations.proofs.load_cells.count_slopes.Goals as goal

pub loop-load-preserved : goal.loop-load-preserved
loop-load-preserved c =
    let ps = c.args.pattern.now.places in
    let us = c.args.loads.now in
    let k = c.loop-load.load-index in
    let u = get_or us k no_load in
    let is = c.no_slopes.ensures.slopes in
    next_load ps c.args.cells.now (λ u. no_slopes) us c.loop-load.cells c.add_load.new.cells k no_load
    c.loop-load-test.true c.loop-load.invariant (subst AreSlopes is c.no_slopes.ensures.small)
    (subst (λ (s : Slopes). AreGrown ps c.loop-load.cells c.add_load.new.cells (of_load u s)) is c.add_load.ensures)

pub returns-clause-grown : goal.returns-clause-grown
returns-clause-grown c =
    loads_grown c.args.pattern.now.places c.args.cells.now (λ u. no_slopes) c.args.loads.now c.loop-load.cells
    c.loop-load.load-index c.loop-load-test.false c.loop-load.invariant

pub returns-clause-room : goal.returns-clause-room
returns-clause-room c =
    room_yet c.args.pattern.now.places c.args.cells.now (λ u. no_slopes) c.args.loads.now c.loop-load.cells
    c.loop-load.load-index (omega (arith, c.loop-load.auto.load-index-end, c.requires.few)) c.loop-load.invariant
