use Rattle.std.proofs.Common.{◌∙◌, None, map, ap, sym}
use Rattle.fd_pages.specs.fd_outside.Emitted.{pieces_of}
use Rattle.fd_pages.specs.fd_outcome.Behind.{closes}
use Rattle.fd_pages.specs.fd_outcome.Calls.{writes}
use Rattle.fd_pages.proofs.CallerLemmas.fd_outcome.{cut_before}
use Rattle.fd_solving.proofs.Handed.{closed, printed_as, printed_cut}
use Rattle.fd_solving.proofs.print.print_last.Goals as goal

pub returns-in_default-clause-prints : goal.returns-in_default-clause-prints
returns-in_default-clause-prints g c =
    printed_cut g.S.Sink.taken g.S.Sink.calls (closes g.P.Page.style.closing) c.args.out.now c.args.out.now _ None 1
    (λ told none. closed g.P.Page.style c.args.begun told none)
    (cut_before g.S.Sink.taken g.S.Sink.calls c.args.out.now _)

pub returns-clause-prints : goal.returns-clause-prints
returns-clause-prints g c =
    let same = ap (λ rs. map writes (pieces_of rs)) c.as_slice.ensures.value ∙ c.in-Ok.ensures in
    printed_as g.S.Sink.taken g.S.Sink.calls (closes g.P.Page.style.closing) c.args.out.now c.print_end.new.out
    (map writes (pieces_of c.as_slice.result.now)) _ None c.print_end.result
    same (c.print_end.ensures.prints (closes g.P.Page.style.closing)
    (λ told none. closed g.P.Page.style c.args.begun told (sym same ∙ ap (map writes) none)))
