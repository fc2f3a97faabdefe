use Rattle.fd_rungs.specs.Branches.{IsBranch}
use Rattle.fd_rungs.specs.Elements.{transformer_phase}
use Rattle.fd_rungs.proofs.Rows.{all_more, one_longer, one_more}
use Rattle.fd_rungs.proofs.transformers.branches_by.Goals as goal

pub loop-k-preserved : goal.loop-k-preserved
loop-k-preserved c = record {
  value = one_more (transformer_phase c.args.numbers.now c.args.xfmr.now c.args.at.now) c.loop-k.k _ _ _ c.in_ok-push.ensures.items
      c.loop-k.invariant.value c.in_ok-transformer_phase.ensures.value;
  count = one_longer c.loop-k.k _ _ _ c.in_ok-push.ensures.items c.loop-k.invariant.count;
  small = all_more IsBranch _ _ _ c.in_ok-push.ensures.items c.loop-k.invariant.small c.in_ok-transformer_phase.ensures.small;
}
