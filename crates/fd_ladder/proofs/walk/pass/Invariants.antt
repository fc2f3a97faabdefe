use Rattle.std.proofs.Common.{◌≡◌, ◌-◌, length, drop}
use Rattle.fd_ladder.specs.Radial.{pass, reach_at}
use Rattle.fd_ladder.specs.Due.{AreDue}
use Rattle.fd_ladder.proofs.walk.pass.Given as goal

-- the sections from this place on, from what is reached so far, reach what all reach
abbrev pub invariant-loop-place : goal.invariant-loop-place
invariant-loop-place l = record {
  rest : pass (drop l.from l.sections) (reach_at l.nodes.keys l.order.keys) ≡ pass l.sections (reach_at l.fn.nodes.keys l.fn.order.keys);
  due : AreDue l.sections l.due (reach_at l.nodes.keys l.order.keys);
}

abbrev pub decreases-loop-place : goal.decreases-loop-place
decreases-loop-place l = length l.sections - l.from
