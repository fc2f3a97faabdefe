use Rattle.fd_app.proofs.Written.{round_trip}
use Rattle.fd_app.proofs.accepted.round_trip_law.Goals as goal

pub returns : goal.returns
returns c =
    round_trip c.status_law.ensures c.read_law.ensures c.forms_law.ensures c.rule_law.ensures c.passed_law.ensures
    c.certificate_law.ensures c.solved_law.ensures
