use Rattle.fd_equations.proofs.Exchanging.{rows_room}
use Rattle.fd_equations.proofs.sparse.renew.Goals as goal

pub exchange_terms-requires-clause-room : goal.exchange_terms-requires-clause-room
exchange_terms-requires-clause-room c =
    rows_room c.args.pattern.now.places c.args.cells.now c.args.pattern.now.size c.args.old_terms.now
    c.args.old_loads.now c.requires.old_linear c.requires.sums
