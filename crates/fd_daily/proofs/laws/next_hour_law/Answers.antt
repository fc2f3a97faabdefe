use Rattle.fd_daily.proofs.NextHours.{next_hour}
use Rattle.fd_daily.proofs.laws.next_hour_law.Goals as goal

pub returns : goal.returns
returns g c = next_hour
