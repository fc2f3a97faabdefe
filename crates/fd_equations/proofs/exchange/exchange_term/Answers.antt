use Rattle.fd_equations.specs.Amounts.{of_term}
use Rattle.fd_equations.proofs.Exchanging.{exchanged_one}
use Rattle.fd_equations.proofs.exchange.exchange_term.Goals as goal

pub returns-then-not-is_same : goal.returns-then-not-is_same
returns-then-not-is_same c =
    exchanged_one c.args.pattern.now.places c.args.cells.now c.take_term.new.cells c.add_term.new.cells
    (of_term c.args.old.now) (of_term c.args.new.now) c.take_term.ensures.taken c.add_term.ensures
