use Rattle.std.proofs.Common.{◌∙◌, [], ◌∷◌, List, subst}
use Rattle.std.specs.Prelude.{IfNone, IfSome}
use Rattle.fd_pages.specs.fd_outside.Emitted.{pieces_of}
use Rattle.fd_pages.specs.fd_outcome.Calls.{Call}
use Rattle.fd_pages.specs.fd_outcome.Events.{waits}
use Rattle.fd_pages.specs.fd_outcome.Parts.{IsCutIn, Wrote}
use Rattle.fd_pages.specs.fd_outcome.Way.{whole}
use Rattle.fd_pages.proofs.CallerLemmas.fd_outcome.{cut_before}
use Rattle.fd_solving.proofs.Handed.{silent_begun, silent_calls, texts_alone}
use Rattle.fd_solving.proofs.print.print_pending.Goals as goal

pub returns-in_default-clause-ends : goal.returns-in_default-clause-ends
returns-in_default-clause-ends g c = cut_before g.S.Sink.taken g.S.Sink.calls c.args.out.now _

pub returns-clause-goes : goal.returns-clause-goes
returns-clause-goes g c =
    let event = waits c.args.circuit.now c.args.entries.now in
    let texts = pieces_of c.in-Ok.texts.items in
    let same = silent_calls g.P.Page.style c.args.begun.now (event ∷ []) texts
    (c.law.ensures.silent_waits c.args.circuit.now c.args.entries.now, tt)
    (texts_alone g.P.Page.style event texts c.in-Ok.ensures) in
    subst (λ (l : List Call).
    IfNone c.print_texts.result (Wrote g.S.Sink.taken g.S.Sink.calls c.args.out.now c.print_texts.new.out (whole l)))
    same c.print_texts.ensures.goes

pub returns-clause-begun : goal.returns-clause-begun
returns-clause-begun g c none =
    let event = waits c.args.circuit.now c.args.entries.now in
    let texts = pieces_of c.in-Ok.texts.items in
    c.print_texts.ensures.begun none
    ∙ silent_begun g.P.Page.style c.args.begun.now (event ∷ []) texts
    (c.law.ensures.silent_waits c.args.circuit.now c.args.entries.now, tt)
    (texts_alone g.P.Page.style event texts c.in-Ok.ensures)

pub returns-clause-ends : goal.returns-clause-ends
returns-clause-ends g c =
    let event = waits c.args.circuit.now c.args.entries.now in
    let texts = pieces_of c.in-Ok.texts.items in
    let same = silent_calls g.P.Page.style c.args.begun.now (event ∷ []) texts
    (c.law.ensures.silent_waits c.args.circuit.now c.args.entries.now, tt)
    (texts_alone g.P.Page.style event texts c.in-Ok.ensures) in
    subst (λ (l : List Call).
    IfSome c.print_texts.result (λ code.
    IsCutIn g.S.Sink.taken g.S.Sink.calls c.args.out.now c.print_texts.new.out l code))
    same c.print_texts.ensures.ends
