use Rattle.fd_outcome.proofs.Histories.{one_history}
use Rattle.fd_outcome.proofs.laws.history_law.Goals as goal

pub returns : goal.returns
returns g c =
    λ steps lasts held said end s. one_history g.W.Work.is_step g.W.Work.last_name g.W.Work.is_last steps lasts held
    said end s
