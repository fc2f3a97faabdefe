use Rattle.std.proofs.Common.{◌≡◌, fold, length, max, take}
use Rattle.fd_picture.proofs.page.longest_bus.Given as goal

abbrev pub invariant-loop-node : goal.invariant-loop-node
invariant-loop-node l = l.longest ≡ fold (λ longest node. max longest (length node.bus)) 0 (take l.node-index l.nodes)
