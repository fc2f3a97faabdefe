use Rattle.fd_app.proofs.Gathers.{accepted}
use Rattle.fd_app.proofs.meaning.accepted_law.Goals as goal

pub returns : goal.returns
returns c =
    accepted c.checked_law.ensures c.limits_law.ensures c.said_room_law.ensures c.enclosure_law.ensures
    c.sound_at_law.ensures
    c.kept_law.ensures c.modest_law.ensures c.hours_law.ensures c.next_law.ensures
