use Rattle.std.proofs.Common.{◌≡◌, drop}
use Rattle.std.specs.List.{flat_map}
use Rattle.dss_ready.specs.Feeding.{phase_ends}
use Rattle.dss_ready.specs.Labels.{joined_all, group_pairs}
use Rattle.dss_ready.proofs.feeding.join_phases.Given as goal

abbrev pub invariant-loop-phase : goal.invariant-loop-phase
invariant-loop-phase l =
    joined_all l.labels (flat_map (group_pairs l.layout.nodes) (phase_ends (record { first = drop l.phase l.first; second = drop l.phase l.second })))
    ≡ joined_all l.fn.labels (flat_map (group_pairs l.layout.nodes) (phase_ends (record { first = l.first; second = l.second })))
