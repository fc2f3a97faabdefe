use Rattle.std.proofs.Common.{◌+◌, ◌++◌, List, ℕ, ap, ◌∙◌}
use Rattle.std.specs.Prelude.{slice_index}
use Rattle.fd_levels.specs.Order.{both_parts}
use Rattle.fd_levels.proofs.Phases.{phase_more}
use Rattle.fd_levels.proofs.group.push_voltages.Goals as goal

pub loop-place-preserved : goal.loop-place-preserved
loop-place-preserved c =
    phase_more (λ k. both_parts (slice_index c.args.feed.now.nodes k) (c.args.feed.now.branch + k))
    c.args.pairs.now.items c.loop-place.pairs.items c.push_both.new.pairs.items c.loop-place.place c.loop-place.invariant
    (c.in_ok-push_both.ensures ∙ ap (λ (ns : List ℕ). c.loop-place.pairs.items ++ both_parts (slice_index ns c.loop-place.place) (c.args.feed.now.branch + c.loop-place.place)) c.as_slice-nodes.ensures)
