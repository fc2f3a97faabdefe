use Rattle.fd_report.proofs.Enclosed.{sizes}
use Rattle.fd_report.proofs.laws.size_law.Goals as goal

pub returns : goal.returns
returns c = sizes
