use Rattle.std.proofs.Common.{◌∙◌, map, ap, sym}
use Rattle.fd_pages.specs.fd_outside.Emitted.{pieces_of}
use Rattle.fd_pages.specs.fd_outcome.Behind.{has_text}
use Rattle.fd_pages.specs.fd_outcome.Calls.{writes}
use Rattle.fd_pages.proofs.CallerLemmas.fd_outcome.{cut_before, cut_by_fault, cut_by_memory}
use Rattle.fd_solving.proofs.Handed.{cut_as, wrote_as}
use Rattle.fd_solving.proofs.Parted.{wrote_no_text}
use Rattle.fd_solving.proofs.print.print_texts.Goals as goal

pub returns-then-not-has_text-clause-goes : goal.returns-then-not-has_text-clause-goes
returns-then-not-has_text-clause-goes g c =
    wrote_no_text g.S.Sink.taken g.S.Sink.calls g.P.Page.style.opening c.args.begun.now c.args.out.now
    (pieces_of c.args.texts.items)
    (sym (ap (λ rs. has_text (map writes (pieces_of rs))) c.as_slice.ensures.value) ∙ sym c.has_text.ensures
    ∙ c.if-not-has_text.true)

pub returns-in_default-clause-ends : goal.returns-in_default-clause-ends
returns-in_default-clause-ends g c = cut_before g.S.Sink.taken g.S.Sink.calls c.args.out.now _

pub returns-in-Ok-emit-clause-goes : goal.returns-in-Ok-emit-clause-goes
returns-in-Ok-emit-clause-goes g c =
    wrote_as g.S.Sink.taken g.S.Sink.calls c.args.out.now c.emit.new.out (pieces_of c.as_slice-2.result.now) _
    (ap (λ rs. map writes (pieces_of rs)) c.as_slice-2.ensures.value ∙ c.in-Ok.ensures) c.in-Ok-emit.ensures.ok

pub returns-in-Err-Failed-clause-ends : goal.returns-in-Err-Failed-clause-ends
returns-in-Err-Failed-clause-ends g c =
    let torn = rw c.in-Err-Failed.field-0-is at c.in-Err-Failed.ensures.emits in
    cut_as g.S.Sink.taken g.S.Sink.calls c.args.out.now c.emit.new.out _ _ 5
    (ap (λ rs. map writes (pieces_of rs)) c.as_slice-2.ensures.value ∙ c.in-Ok.ensures)
    (cut_by_fault g.S.Sink.taken g.S.Sink.calls c.args.out.now c.emit.new.out (pieces_of c.as_slice-2.result.now)
    torn)

pub returns-clause-ends : goal.returns-clause-ends
returns-clause-ends g c =
    let first = rw c.in-Err-NoMemory.field-0-is at c.in-Err-NoMemory.ensures.emits in
    cut_as g.S.Sink.taken g.S.Sink.calls c.args.out.now c.emit.new.out _ _ 1
    (ap (λ rs. map writes (pieces_of rs)) c.as_slice-2.ensures.value ∙ c.in-Ok.ensures)
    (cut_by_memory g.S.Sink.taken g.S.Sink.calls c.args.out.now c.emit.new.out (pieces_of c.as_slice-2.result.now)
    first)
