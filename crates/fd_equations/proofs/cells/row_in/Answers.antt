use Rattle.fd_equations.proofs.Reading.{is_row, starts_rise}
use Rattle.fd_equations.proofs.cells.row_in.Goals as goal

pub slice_bounds-result-count : goal.slice_bounds-result-count
slice_bounds-result-count c = starts_rise c.args.pattern.now c.args.row c.start-from.result c.start-to.result c.start-from.ensures c.start-to.ensures

pub slice_bounds-result-start : goal.slice_bounds-result-start
slice_bounds-result-start c = starts_rise c.args.pattern.now c.args.row c.start-from.result c.start-to.result c.start-from.ensures c.start-to.ensures

pub returns : goal.returns
returns c = λ at are none.
    is_row c.args.pattern.now c.args.cells.now c.args.row c.start-from.result c.start-to.result
    at c.places-places.ensures.sound c.start-from.ensures c.start-to.ensures are none
