use Rattle.fd_app.proofs.Runs.{told}
use Rattle.fd_app.proofs.top.told_law.Goals as goal

pub returns : goal.returns
returns g c = told g.L.Library.answers g.L.Library.holds g.S.Sink.taken g.S.Sink.calls
