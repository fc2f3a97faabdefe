use Rattle.fd_settle.proofs.Keeping.{machine_kept}
use Rattle.fd_settle.proofs.kept.kept_law.Goals as goal

pub returns : goal.returns
returns c = machine_kept c.queue_law.ensures c.own_law.ensures c.tap_law.ensures
