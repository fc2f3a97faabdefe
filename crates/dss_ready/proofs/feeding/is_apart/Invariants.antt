use Rattle.std.proofs.Common.{◌≡◌, ◌==◌, not, drop, length, slice_index}
use Rattle.std.specs.List.{list_any}
use Rattle.dss_layout.specs.Nodes.{number_in}
use Rattle.dss_ready.proofs.feeding.is_apart.Given as goal

abbrev pub invariant-loop-name : goal.invariant-loop-name
invariant-loop-name l =
    list_any (λ m. not (slice_index l.labels (number_in l.layout.nodes m) == slice_index l.labels (length l.layout.nodes))) (drop l.name-index l.name-items)
    ≡ list_any (λ m. not (slice_index l.labels (number_in l.layout.nodes m) == slice_index l.labels (length l.layout.nodes))) l.name-items
