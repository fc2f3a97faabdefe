use Rattle.std.proofs.Common.{◌≡◌, ◌++◌, take}
use Rattle.fd_devices.specs.Reach.{unknowns_of}
use Rattle.fd_devices.proofs.reached.add_nodes.Given as goal

abbrev pub invariant-loop-node : goal.invariant-loop-node
invariant-loop-node l = l.at.items ≡ l.initial.at.items ++ unknowns_of (take l.node-index l.nodes)
