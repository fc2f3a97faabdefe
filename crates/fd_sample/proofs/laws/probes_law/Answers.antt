use Rattle.fd_sample.proofs.Kept.{are_probes}
use Rattle.fd_sample.proofs.laws.probes_law.Goals as goal

pub returns : goal.returns
returns c = are_probes
