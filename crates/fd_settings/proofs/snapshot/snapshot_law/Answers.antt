use Rattle.fd_settings.proofs.Next.{snapshot_is}
use Rattle.fd_settings.proofs.snapshot.snapshot_law.Goals as goal

pub returns : goal.returns
returns c = snapshot_is
