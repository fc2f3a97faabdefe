use Rattle.std.proofs.Common.{◌≡◌, drop}
use Rattle.fd_ladder.specs.Radial.{reach_all}
use Rattle.fd_levels.proofs.sides.reach_all.Given as goal

-- what is reached so far, and the nodes that are left, reach what all reach
abbrev pub invariant-loop-node : goal.invariant-loop-node
invariant-loop-node l = reach_all l.reached.keys (drop l.node-index l.nodes) ≡ reach_all l.fn.reached.keys l.nodes
