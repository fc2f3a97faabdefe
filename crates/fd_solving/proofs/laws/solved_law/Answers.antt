use Rattle.fd_solving.proofs.SolvedCommands.{all_solved}
use Rattle.fd_solving.proofs.laws.solved_law.Goals as goal

pub returns : goal.returns
returns c = all_solved (record {
  limits = c.limits_law.ensures;
  network = c.network_law.ensures;
  certificate = c.certificate_law.ensures;
  enclosure = c.enclosure_law.ensures;
  linear = c.linear_law.ensures;
  tie = c.tie_law.ensures;
  ball = c.ball_law.ensures;
  hours = c.hours_law.ensures;
  modest = c.modest_law.ensures;
  next = c.next_law.ensures;
  kept = c.kept_rounds_law.ensures;
}) c.said_room_law.ensures
