use Rattle.fd_fault.proofs.Passed.{fault_passed}
use Rattle.fd_fault.proofs.laws.passed_law.Goals as goal

pub returns : goal.returns
returns c = fault_passed
