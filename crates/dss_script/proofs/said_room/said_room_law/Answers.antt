use Rattle.dss_script.proofs.SaidRooms.{said_fits}
use Rattle.dss_script.proofs.said_room.said_room_law.Goals as goal

pub returns : goal.returns
returns c = said_fits
