use Rattle.std.proofs.Common.{take}
use Rattle.std.specs.List.{list_any}
use Rattle.dss_layout.specs.Nodes.{same_node}
use Rattle.fd_ladder.specs.Due.{Notes}
use Rattle.fd_ladder.proofs.touching.note_all.Given as goal

-- the place is noted at the nodes so far
abbrev pub invariant-loop-node : goal.invariant-loop-node
invariant-loop-node l =
    Notes (λ other. list_any (same_node other) (take l.node-index l.nodes)) l.place l.fn.touching.entries l.touching.entries
