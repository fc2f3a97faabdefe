use Rattle.fd_sweeping.proofs.Swept.{all_swept}
use Rattle.fd_sweeping.proofs.laws.swept_law.Goals as goal

pub returns : goal.returns
returns c =
    all_swept (record {
      limits = c.limits_law.ensures;
      solution = c.solution_law.ensures;
      network = c.network_law.ensures;
      hours = c.hours_law.ensures;
      modest = c.modest_law.ensures;
      next = c.next_law.ensures;
      widening = c.widening_law.ensures;
      agreement = c.agreement_law.ensures;
    })
    c.said_room_law.ensures
