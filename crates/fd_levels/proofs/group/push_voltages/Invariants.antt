use Rattle.std.proofs.Common.{◌≡◌, ◌+◌, ◌++◌}
use Rattle.std.specs.Prelude.{slice_index}
use Rattle.std.specs.List.{flat_map, range_with_len}
use Rattle.fd_levels.specs.Order.{both_parts}
use Rattle.fd_levels.proofs.group.push_voltages.Given as goal

-- the pairs of the phases so far
abbrev pub invariant-loop-place : goal.invariant-loop-place
invariant-loop-place l =
    l.pairs.items ≡ l.fn.pairs.items ++ flat_map (λ k. both_parts (slice_index l.feed.nodes k) (l.feed.branch + k)) (range_with_len 0 l.place)
