use Rattle.fd_queue.proofs.Samplings.{sampled_ways}
use Rattle.fd_queue.proofs.laws.sampled_law.Goals as goal

pub returns : goal.returns
returns c = sampled_ways
