use Rattle.std.proofs.Common.{[], ◌∷◌}
use Rattle.fd_solving.specs.fd_report.declared.faults.Fault.TheVariants as fault
use Rattle.fd_solving.specs.fd_outcome.Calls.{fault_text, writes}
use Rattle.fd_solving.proofs.CallerLemmas.fd_outcome.{cut_before, fault_cut}
use Rattle.fd_checking.proofs.checking.print_unread.Goals as goal

pub returns-in-Err-clause-prints : goal.returns-in-Err-clause-prints
returns-in-Err-clause-prints g c =
    let f = fault.Read c.args.name.now in
    fault_cut g.S.Sink.taken g.S.Sink.calls c.args.out.now c.args.out.now f 1
    (cut_before g.S.Sink.taken g.S.Sink.calls c.args.out.now (writes (fault_text f) ∷ []))
