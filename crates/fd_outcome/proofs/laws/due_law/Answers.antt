use Rattle.fd_outcome.specs.History.{IsFrom}
use Rattle.fd_outcome.proofs.Printing.{due_of}
use Rattle.fd_outcome.proofs.laws.due_law.Goals as goal

pub returns : goal.returns
returns g c = λ held style tells p lib_old lib_new old new code one runs.
    due_of g.L.Library.answers g.S.Sink.taken g.S.Sink.calls
    (IsFrom g.W.Work.is_step g.W.Work.last_name g.W.Work.is_last held p) style tells lib_old lib_new old new
    code one runs
