use Rattle.std.proofs.Common.{◌≡◌, drop}
use Rattle.fd_ladder.specs.Radial.{reach_all}
use Rattle.fd_ladder.specs.Due.{Wakes}
use Rattle.fd_ladder.proofs.walk.reach_all.Given as goal

-- what is reached so far, and the nodes that are left, reach what all reach
abbrev pub invariant-loop-node : goal.invariant-loop-node
invariant-loop-node l = record {
  rest : reach_all l.nodes.keys (drop l.node-index l.names) ≡ reach_all l.fn.nodes.keys l.names;
  woken : Wakes l.touching.entries l.fn.nodes.keys l.nodes.keys l.fn.due l.due;
}
