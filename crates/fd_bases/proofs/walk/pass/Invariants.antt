use Rattle.std.proofs.Common.{◌≡◌, ◌-◌, ◌≤◌, length, drop}
use Rattle.fd_bases.specs.Walk.{pass}
use Rattle.fd_bases.specs.Due.{AreDue}
use Rattle.fd_bases.proofs.walk.pass.Given as goal

-- the elements from this place on, from what is reached so far, reach what all reach
abbrev pub invariant-loop-place : goal.invariant-loop-place
invariant-loop-place l = record {
  rest : pass (drop l.from l.elements.entries) l.reached.entries ≡ pass l.elements.entries l.fn.reached.entries;
  due : AreDue l.elements.entries l.due l.reached.entries;
  within : l.from ≤ length l.elements.entries;
}

abbrev pub decreases-loop-place : goal.decreases-loop-place
decreases-loop-place l = length l.elements.entries - l.from
