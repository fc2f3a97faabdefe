use Rattle.fd_settings.proofs.HourSizes.{powers_modest}
use Rattle.fd_settings.proofs.modest.modest_law.Goals as goal

pub returns : goal.returns
returns c = powers_modest
