use Rattle.std.proofs.Common.{◌≡◌, vec_len}
use Rattle.std.specs.List.{range_with_len}
use Rattle.dss_ready.proofs.feeding.own.Given as goal

abbrev pub invariant-loop-place : goal.invariant-loop-place
invariant-loop-place l = (l.labels.items ≡ range_with_len 0 l.place) × (vec_len l.labels ≡ l.place)
