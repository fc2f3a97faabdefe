use Rattle.fd_daily.proofs.Runs.{run_history}
use Rattle.fd_daily.proofs.laws.run_law.Goals as goal

pub returns : goal.returns
returns g c = run_history g.S.Sampled.holds g.S.Sampled.of_ball g.S.Sampled.of_state c.history_law.ensures c.whole_law.ensures
