use Rattle.fd_line.proofs.Line.{line_is}
use Rattle.fd_line.proofs.laws.line_law.Goals as goal

pub returns : goal.returns
returns c = line_is
