use Rattle.fd_xfmr.proofs.Transformer.{xfmr_is}
use Rattle.fd_xfmr.proofs.laws.xfmr_law.Goals as goal

pub returns : goal.returns
returns c = xfmr_is
