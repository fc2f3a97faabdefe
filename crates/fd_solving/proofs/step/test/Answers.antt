use Rattle.std.proofs.Common.{refl}
use Rattle.fd_solving.proofs.step.test.Goals as goal

pub returns-in-Ok : goal.returns-in-Ok
returns-in-Ok c = (refl, c.in-Ok.ensures)

pub returns-in_ok-fault-in-Err-Blame : goal.returns-in_ok-fault-in-Err-Blame
returns-in_ok-fault-in-Err-Blame c = record {
  blame = c.in-Err-Blame.blame;
  right = rw c.in-Err-Blame.field-0-is at c.in-Err-Blame.ensures;
  fault_is = c.in_ok-fault-in-Err-Blame.ensures;
}
