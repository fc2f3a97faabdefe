use Rattle.std.proofs.Common.{false}
use Rattle.fd_solving.specs.fd_outcome.Calls.{report}
use Rattle.fd_solving.specs.fd_outcome.Behind.{closes}
use Rattle.fd_solving.proofs.CallerLemmas.fd_outcome.{finishes_last, untold_last}
use Rattle.fd_sweeping.proofs.sweeping.SweepingLine.finish.Goals as goal

pub returns-clause-told : goal.returns-clause-told
returns-clause-told g c files told =
    finishes_last g.L.Library.answers g.L.Library.holds g.S.Sink.faults g.S.Sink.taken g.S.Sink.calls report
    (closes report.closing) c.args._lib.now c.args.out.now c.print_last.new.out c.args.begun c.print_last.result
    c.print_last.ensures.prints

pub returns-clause-untold : goal.returns-clause-untold
returns-clause-untold g c =
    untold_last g.L.Library.answers g.L.Library.holds g.S.Sink.faults g.S.Sink.taken g.S.Sink.calls
    (closes report.closing) c.args._lib.now c.args.out.now c.print_last.new.out _ c.print_last.result
    c.print_last.ensures.prints c.print_last.ensures.write
