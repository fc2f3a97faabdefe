use Rattle.fd_rungs.specs.Branches.{IsBranch}
use Rattle.fd_rungs.specs.Elements.{line_branch}
use Rattle.fd_rungs.proofs.Rows.{all_more, one_longer, one_more}
use Rattle.fd_rungs.proofs.lines.branches_between.Goals as goal

pub loop-k-preserved : goal.loop-k-preserved
loop-k-preserved c = record {
  value = one_more (line_branch c.args.line.now c.args.inner.now c.args.outer.now c.args.from c.args.outward) c.loop-k.k _ _ _ c.in_ok-push.ensures.items c.loop-k.invariant.value
      c.in_ok-line_branch.ensures.value;
  count = one_longer c.loop-k.k _ _ _ c.in_ok-push.ensures.items c.loop-k.invariant.count;
  small = all_more IsBranch _ _ _ c.in_ok-push.ensures.items c.loop-k.invariant.small c.in_ok-line_branch.ensures.small;
}
