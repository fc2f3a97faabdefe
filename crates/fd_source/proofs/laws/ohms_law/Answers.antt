use Rattle.fd_source.proofs.Greatest.{are_greatest}
use Rattle.fd_source.proofs.laws.ohms_law.Goals as goal

pub returns : goal.returns
returns c = are_greatest
