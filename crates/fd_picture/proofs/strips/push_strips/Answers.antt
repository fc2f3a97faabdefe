use Rattle.std.proofs.Common.{◌∙◌, ◌/◌}
use Rattle.fd_picture.proofs.Rows.{strips_next}
use Rattle.fd_picture.proofs.strips.push_strips.Goals as goal

pub loop-i-preserved : goal.loop-i-preserved
loop-i-preserved c =
    strips_next c.args.panel.now (c.saturating_sub-full.result / 42) c.loop-i.i c.as_slice-nodes.result.now
    c.loop-i.strips.items _ c.new.result c.loop-i-test.true c.new.ensures c.in_ok-push.ensures.items
    ∙ c.loop-i.invariant
