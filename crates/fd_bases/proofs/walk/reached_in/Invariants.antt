use Rattle.std.proofs.Common.{◌≡◌, ◌-◌, length}
use Rattle.fd_bases.specs.Walk.{passes, reached_in}
use Rattle.fd_bases.specs.Due.{AreDue}
use Rattle.fd_bases.proofs.walk.reached_in.Given as goal

-- the passes that are left, from what is reached so far, reach what all reach
abbrev pub invariant-loop-pass : goal.invariant-loop-pass
invariant-loop-pass l = record {
  rest : passes (length l.elements.entries - l._pass) l.elements.entries l.reached.entries ≡ reached_in l.elements.entries;
  due : AreDue l.elements.entries l.due l.reached.entries;
}
