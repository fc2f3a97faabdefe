use Rattle.fd_source.proofs.Rows.{source_is}
use Rattle.fd_source.proofs.laws.source_law.Goals as goal

pub returns : goal.returns
returns c = source_is
