use Rattle.std.proofs.Common.{◌≡◌, drop}
use Rattle.dss_ready.specs.Labels.{joined_all, all_pairs}
use Rattle.dss_ready.proofs.feeding.join_elements.Given as goal

abbrev pub invariant-loop-place : goal.invariant-loop-place
invariant-loop-place l =
    joined_all l.labels (all_pairs l.layout.nodes (drop l.place l.elements.entries)) ≡ joined_all l.fn.labels (all_pairs l.layout.nodes l.elements.entries)
