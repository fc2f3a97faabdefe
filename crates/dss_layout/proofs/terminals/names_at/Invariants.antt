use Rattle.std.proofs.Common.{◌≡◌, List, map, take}
use Rattle.dss_layout.specs.declared.nodes.NodeName.{NodeName}
use Rattle.dss_layout.proofs.terminals.names_at.Given as goal

abbrev pub invariant-loop-number : goal.invariant-loop-number
invariant-loop-number l = ◌≡◌ {A = List NodeName} l.names.items (map (λ n. record { bus = l.bus.name; number = n }) (take l.number-index l.numbers))
