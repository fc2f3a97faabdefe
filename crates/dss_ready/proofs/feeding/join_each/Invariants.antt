use Rattle.std.proofs.Common.{◌≡◌, drop}
use Rattle.dss_ready.specs.Labels.{joined_all, pairs_with}
use Rattle.dss_ready.proofs.feeding.join_each.Given as goal

abbrev pub invariant-loop-name : goal.invariant-loop-name
invariant-loop-name l =
    joined_all l.labels (pairs_with l.layout.nodes l.place (drop l.name-index l.names)) ≡ joined_all l.fn.labels (pairs_with l.layout.nodes l.place l.names)
