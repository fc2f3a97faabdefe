use Rattle.fd_queue.proofs.Rooms.{few_entries}
use Rattle.fd_queue.proofs.laws.room_law.Goals as goal

pub returns : goal.returns
returns c = few_entries
