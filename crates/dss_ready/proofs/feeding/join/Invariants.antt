use Rattle.std.proofs.Common.{◌≡◌, ◌==◌, ◌++◌, map, take, drop, if◌then◌else◌}
use Rattle.dss_ready.proofs.feeding.join.Given as goal

abbrev pub invariant-loop-label : goal.invariant-loop-label
invariant-loop-label l =
    l.labels ≡ map (λ x. if x == l.gone then l.kept else x) (take l.label-index l.fn.labels) ++ drop l.label-index l.fn.labels
