use Rattle.std.proofs.Common.{◌≡◌, ◌++◌, drop}
use Rattle.fd_levels.specs.Feeds.{buses_of, new_buses}
use Rattle.fd_levels.proofs.buses.buses_of.Given as goal

-- the buses so far, and what the nodes that are left add, are those of all
abbrev pub invariant-loop-node : goal.invariant-loop-node
invariant-loop-node l = l.buses.keys ++ new_buses l.buses.keys (drop l.node-index l.nodes) ≡ buses_of l.nodes
