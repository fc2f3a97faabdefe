use Rattle.std.proofs.Common.{◌∙◌, ◌+◌, length, ap, arith}
use Rattle.fd_rungs.specs.Branches.{IsShunt}
use Rattle.fd_rungs.specs.Elements.{bank_phase}
use Rattle.fd_rungs.proofs.Rows.{all_more, one_longer, one_more_behind}
use Rattle.fd_rungs.proofs.banks.add_phases.Goals as goal

pub loop-k-preserved : goal.loop-k-preserved
loop-k-preserved c = record {
  value = one_more_behind (bank_phase c.args.bank.now c.args.at.now) c.loop-k.k _ _ _ _ c.in_ok-push.ensures.items
      c.loop-k.invariant.value c.bank_phase.ensures.value;
  count = omega (arith, one_longer (length c.args.shunts.now.items + c.loop-k.k) _ _ _ c.in_ok-push.ensures.items c.loop-k.invariant.count);
  small = all_more IsShunt _ _ _ c.in_ok-push.ensures.items c.loop-k.invariant.small c.bank_phase.ensures.small;
}
