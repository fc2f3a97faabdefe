use Rattle.fd_certfile.proofs.Lines.{end_more}
use Rattle.fd_certfile.proofs.line.end.Goals as goal

pub returns-in-Some : goal.returns-in-Some
returns-in-Some c = rw c.in-Some.is (end_more c.in-Some.field-0.now)
