use Rattle.fd_pages.specs.fd_outcome.Behind.{closes}
use Rattle.fd_pages.proofs.CallerLemmas.fd_outcome.{finishes_last, untold_last}
use Rattle.fd_solving.proofs.solving.StandingLine.finish.Goals as goal

pub returns-clause-told : goal.returns-clause-told
returns-clause-told g c files told =
    finishes_last g.L.Library.answers g.L.Library.holds g.S.Sink.faults g.S.Sink.taken g.S.Sink.calls g.P.Page.style
    (closes g.P.Page.style.closing) c.args._lib.now c.args.out.now c.print_last.new.out c.args.begun c.print_last.result
    c.print_last.ensures.prints

pub returns-clause-untold : goal.returns-clause-untold
returns-clause-untold g c =
    untold_last g.L.Library.answers g.L.Library.holds g.S.Sink.faults g.S.Sink.taken g.S.Sink.calls
    (closes g.P.Page.style.closing) c.args._lib.now c.args.out.now c.print_last.new.out _ c.print_last.result
    c.print_last.ensures.prints c.print_last.ensures.write
