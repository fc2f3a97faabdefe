use Rattle.fd_regctl.proofs.SettingSteps.{settings_steps}
use Rattle.fd_regctl.proofs.laws.settings_law.Goals as goal

pub returns : goal.returns
returns c = settings_steps
