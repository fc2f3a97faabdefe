use Rattle.fd_settings.proofs.HourPowers.{hour_powers_are}
use Rattle.fd_settings.proofs.hours.hours_law.Goals as goal

pub returns : goal.returns
returns c = hour_powers_are
