use Rattle.fd_queue.proofs.Rooms.{fewer_entries}
use Rattle.fd_queue.proofs.laws.spare_law.Goals as goal

pub returns : goal.returns
returns c = fewer_entries
