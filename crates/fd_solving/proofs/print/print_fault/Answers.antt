use Rattle.std.proofs.Common.{[], ◌∷◌}
use Rattle.fd_pages.specs.fd_outcome.Calls.{fault_text, writes}
use Rattle.fd_pages.proofs.CallerLemmas.fd_outcome.{cut_before, cut_by_fault, cut_by_memory, fault_cut, fault_whole}
use Rattle.fd_solving.proofs.print.print_fault.Goals as goal

pub returns-in_default-clause-prints : goal.returns-in_default-clause-prints
returns-in_default-clause-prints g c =
    let f = c.args.fault.now in
    fault_cut g.S.Sink.taken g.S.Sink.calls c.args.out.now c.args.out.now f 1
    (cut_before g.S.Sink.taken g.S.Sink.calls c.args.out.now (writes (fault_text f) ∷ []))

pub returns-in-Ok-emit-clause-prints : goal.returns-in-Ok-emit-clause-prints
returns-in-Ok-emit-clause-prints g c =
    fault_whole g.S.Sink.taken g.S.Sink.calls c.args.out.now c.emit.new.out c.args.fault.now c.status.result
    c.status.ensures (rw c.in-Ok.ensures at c.in-Ok-emit.ensures.ok)

pub returns-in-Err-Failed-clause-prints : goal.returns-in-Err-Failed-clause-prints
returns-in-Err-Failed-clause-prints g c =
    let f = c.args.fault.now in
    let torn = rw (c.in-Err-Failed.field-0-is, c.in-Ok.ensures) at c.in-Err-Failed.ensures.emits in
    fault_cut g.S.Sink.taken g.S.Sink.calls c.args.out.now c.emit.new.out f 5
    (cut_by_fault g.S.Sink.taken g.S.Sink.calls c.args.out.now c.emit.new.out (fault_text f ∷ []) torn)

pub returns-clause-prints : goal.returns-clause-prints
returns-clause-prints g c =
    let f = c.args.fault.now in
    let first = rw (c.in-Err-NoMemory.field-0-is, c.in-Ok.ensures) at c.in-Err-NoMemory.ensures.emits in
    fault_cut g.S.Sink.taken g.S.Sink.calls c.args.out.now c.emit.new.out f 1
    (cut_by_memory g.S.Sink.taken g.S.Sink.calls c.args.out.now c.emit.new.out (fault_text f ∷ []) first)
