use Rattle.std.proofs.Common.{◌<◌, subst}
use Rattle.fd_equations.proofs.Exchanging.{counts_between, exchanged_then, room_between}
use Rattle.fd_equations.proofs.Growth.{no_term, terms_more}
use Rattle.fd_equations.proofs.exchange.exchange_terms.Goals as goal

pub exchange_term-requires-clause-room : goal.exchange_term-requires-clause-room
exchange_term-requires-clause-room c =
    room_between c.args.pattern.now.places c.args.cells.now c.loop-k.cells c.args.pattern.now.size c.args.old.now
    c.args.new.now c.loop-k.k c.loop-k.invariant c.requires.old c.requires.new c.requires.room

pub exchange_term-requires-clause-counts : goal.exchange_term-requires-clause-counts
exchange_term-requires-clause-counts c =
    counts_between c.args.pattern.now.places c.args.cells.now c.loop-k.cells c.args.pattern.now.size c.args.old.now
    c.args.new.now c.loop-k.k c.loop-k.invariant no_term c.loop-k-test.true c.requires.counts

pub loop-k-preserved : goal.loop-k-preserved
loop-k-preserved c =
    exchanged_then c.args.pattern.now.places c.args.cells.now c.loop-k.cells c.exchange_term.new.cells _ _ _ _ _ _
    c.loop-k.invariant c.exchange_term.ensures (terms_more c.args.old.now c.loop-k.k no_term c.loop-k-test.true)
    (terms_more c.args.new.now c.loop-k.k no_term (subst (λ n. c.loop-k.k < n) c.requires.as_many c.loop-k-test.true))
