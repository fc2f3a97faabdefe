use Rattle.fd_capctl.proofs.Banks.{bank_by}
use Rattle.fd_capctl.proofs.laws.bank_law.Goals as goal

pub returns : goal.returns
returns c = bank_by
