use Rattle.fd_app.proofs.Written.{written}
use Rattle.fd_app.proofs.accepted.written_law.Goals as goal

pub returns : goal.returns
returns c =
    written c.status_law.ensures c.read_law.ensures c.forms_law.ensures c.rule_law.ensures c.passed_law.ensures
    c.certificate_law.ensures c.solved_law.ensures
