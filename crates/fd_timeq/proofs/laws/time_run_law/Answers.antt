use Rattle.fd_timeq.proofs.Runs.{time_run}
use Rattle.fd_timeq.proofs.laws.time_run_law.Goals as goal

pub returns : goal.returns
returns g c = time_run
