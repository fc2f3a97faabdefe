use Rattle.fd_sample.proofs.Decided.{every_state}
use Rattle.fd_sample.proofs.laws.sample_law.Goals as goal

pub returns : goal.returns
returns c = every_state
