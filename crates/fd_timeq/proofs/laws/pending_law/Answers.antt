use Rattle.fd_timeq.proofs.Runs.{same_waiting}
use Rattle.fd_timeq.proofs.laws.pending_law.Goals as goal

pub returns : goal.returns
returns g c = same_waiting g.S.Held.holds g.S.Held.of_ball g.S.Held.of_state
