use Rattle.fd_equations.specs.Amounts.{of_loads, of_rows, of_terms}
use Rattle.fd_equations.specs.PartLoads.{no_slopes}
use Rattle.fd_equations.proofs.Growth.{cells_then, slopes_room}
use Rattle.fd_equations.proofs.Holding.{counted}
use Rattle.fd_equations.proofs.sparse.sum_up.Goals as goal

pub count_slopes-requires-clause-room : goal.count_slopes-requires-clause-room
count_slopes-requires-clause-room c =
    slopes_room c.args.pattern.now.places c.add_terms.new.cells c.args.pattern.now.size c.args.terms.now
    c.requires.linear c.add_terms.ensures

pub returns : goal.returns
returns c =
    let ts = c.args.terms.now in
    let us = c.args.loads.now in
    cells_then c.args.pattern.now.places c.add_terms.new.cells c.count_slopes.new.cells (of_terms ts)
    (of_loads (λ u. no_slopes) us) (of_rows ts us) c.add_terms.ensures c.count_slopes.auto.cells
    c.count_slopes.ensures.grown (counted ts us)
