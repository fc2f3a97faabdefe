use Rattle.std.proofs.Common.{None, map, refl}
use Rattle.fd_pages.specs.fd_outside.Emitted.{pieces_of}
use Rattle.fd_pages.specs.fd_outcome.Calls.{writes}
use Rattle.fd_pages.proofs.CallerLemmas.fd_outcome.{cut_by_fault, cut_by_memory}
use Rattle.fd_solving.proofs.Handed.{ended_whole, no_pieces, printed_cut}
use Rattle.fd_solving.proofs.print.print_end.Goals as goal

pub returns-in-Ok-clause-prints : goal.returns-in-Ok-clause-prints
returns-in-Ok-clause-prints g c tells some =
    ended_whole g.S.Sink.taken g.S.Sink.calls tells c.args.out.now c.emit.new.out (pieces_of c.args.texts.now)
    (map writes (pieces_of c.args.texts.now)) refl c.in-Ok.ensures.ok

pub returns-in-Err-Failed-clause-prints : goal.returns-in-Err-Failed-clause-prints
returns-in-Err-Failed-clause-prints g c tells some =
    let torn = rw c.in-Err-Failed.field-0-is at c.in-Err-Failed.ensures.emits in
    printed_cut g.S.Sink.taken g.S.Sink.calls tells c.args.out.now c.emit.new.out _ None 5
    (λ told none. some told (no_pieces (pieces_of c.args.texts.now) none))
    (cut_by_fault g.S.Sink.taken g.S.Sink.calls c.args.out.now c.emit.new.out (pieces_of c.args.texts.now) torn)

pub returns-in-Err-NoMemory-clause-prints : goal.returns-in-Err-NoMemory-clause-prints
returns-in-Err-NoMemory-clause-prints g c tells some =
    let first = rw c.in-Err-NoMemory.field-0-is at c.in-Err-NoMemory.ensures.emits in
    printed_cut g.S.Sink.taken g.S.Sink.calls tells c.args.out.now c.emit.new.out _ None 1
    (λ told none. some told (no_pieces (pieces_of c.args.texts.now) none))
    (cut_by_memory g.S.Sink.taken g.S.Sink.calls c.args.out.now c.emit.new.out (pieces_of c.args.texts.now) first)
