use Rattle.fd_outcome.proofs.Printing.{cut_is}
use Rattle.fd_outcome.proofs.laws.cut_law.Goals as goal

pub returns : goal.returns
returns c tells d code m is = cut_is tells d code m is
