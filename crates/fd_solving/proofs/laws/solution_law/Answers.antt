use Rattle.fd_solving.proofs.SolvedHours.{solution_solved}
use Rattle.fd_solving.proofs.laws.solution_law.Goals as goal

pub returns : goal.returns
returns c circuit at n step ready limits taps room is = (solution_solved (record {
  limits = c.limits_law.ensures;
  network = c.network_law.ensures;
  certificate = c.certificate_law.ensures;
  enclosure = c.enclosure_law.ensures;
  linear = c.linear_law.ensures;
  tie = c.tie_law.ensures;
  ball = c.ball_law.ensures;
  hours = c.hours_law.ensures;
  modest = c.modest_law.ensures;
  next = c.next_law.ensures;
  kept = c.kept_rounds_law.ensures;
}) circuit ready limits at n step taps room is).solved
