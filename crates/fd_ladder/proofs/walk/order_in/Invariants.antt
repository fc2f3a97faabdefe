use Rattle.std.proofs.Common.{◌≡◌, ◌-◌, length}
use Rattle.fd_ladder.specs.Radial.{passes, reach_of, reach_at}
use Rattle.fd_ladder.specs.Due.{AreDue}
use Rattle.fd_ladder.proofs.walk.order_in.Given as goal

-- the passes that are left, from what is reached so far, reach what all reach
abbrev pub invariant-loop-pass : goal.invariant-loop-pass
invariant-loop-pass l = record {
  rest : passes (length l.sections - l._pass) l.sections (reach_at l.nodes.keys l.order.keys) ≡ reach_of l.sections l.source;
  due : AreDue l.sections l.due (reach_at l.nodes.keys l.order.keys);
}
