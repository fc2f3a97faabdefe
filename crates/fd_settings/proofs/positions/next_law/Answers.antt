use Rattle.fd_settings.proofs.Next.{are_next}
use Rattle.fd_settings.proofs.positions.next_law.Goals as goal

pub returns : goal.returns
returns c = are_next
