use Rattle.fd_outside.proofs.Unfailing.{one_more_well}
use Rattle.fd_outside.proofs.memory.NeverFailsLibrary.read.Goals as goal

pub invariant_of-self : goal.invariant_of-self
invariant_of-self c = record {
  unfailing = one_more_well _ _ _ _ c.args.self.now.unfailing c.add.ensures c.found_in-found.ensures.failed;
}
