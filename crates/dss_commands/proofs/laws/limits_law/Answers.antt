use Rattle.dss_commands.proofs.Limits.{kept_by_command}
use Rattle.dss_commands.proofs.laws.limits_law.Goals as goal

pub returns : goal.returns
returns c = kept_by_command
