use Rattle.fd_shorting.proofs.Studying.{all_studied}
use Rattle.fd_shorting.proofs.laws.studied_law.Goals as goal

pub returns : goal.returns
returns c = all_studied c.limits_law.ensures c.said_room_law.ensures c.solution_law.ensures
