use Rattle.std.proofs.Common.{true}
use Rattle.fd_solving.proofs.CallerLemmas.fd_outcome.{cut_before}
use Rattle.fd_checking.specs.Judged.{history_in}
use Rattle.fd_solving.proofs.CallerLemmas.{printed_cut}
use Rattle.fd_checking.proofs.Judging.{some_answer}
use Rattle.fd_checking.proofs.judged.print_judged.Goals as goal

pub returns-in-Err-clause-prints : goal.returns-in-Err-clause-prints
returns-in-Err-clause-prints g c =
    printed_cut g.S.Sink.taken g.S.Sink.calls true c.args.out.now c.args.out.now _ (history_in c.args.judged.now).end 1
    (λ told none. some_answer c.args.judged.now none)
    (cut_before g.S.Sink.taken g.S.Sink.calls c.args.out.now _)
