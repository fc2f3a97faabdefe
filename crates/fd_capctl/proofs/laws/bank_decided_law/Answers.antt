use Rattle.fd_capctl.proofs.CallerLemmas.{bank_decided}
use Rattle.fd_capctl.proofs.laws.bank_decided_law.Goals as goal

pub returns : goal.returns
returns c = bank_decided
