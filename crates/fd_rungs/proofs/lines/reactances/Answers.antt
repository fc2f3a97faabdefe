use Rattle.std.proofs.Common.{◌∙◌, ◌^◌, to_z, of_z, ap, arith, rules}
use Rattle.std.specs.Int.{w128}
use Rattle.fd_line.specs.Totals.{reactance_of}
use Rattle.fd_rungs.specs.Numbers.{coefficient}
use Rattle.fd_rungs.proofs.Drops.{kept_by}
use Rattle.fd_rungs.proofs.Rows.{one_more, one_longer}
use Rattle.fd_rungs.proofs.lines.reactances.Goals as goal

pub loop-m-preserved : goal.loop-m-preserved
loop-m-preserved c =
    let here = kept_by c.reactance.result (omega (arith, c.reactance.ensures.within)) ∙ c.reactance.ensures.value in
    record {
      value = one_more (λ m. coefficient (reactance_of c.args.line.now c.args.k m) (10 ^ 12)) c.loop-m.m _ _
          (coefficient (to_z w128 (of_z w128 c.reactance.result)) (10 ^ 12)) c.in_ok-push_ohms.ensures.value c.loop-m.invariant.value
          (ap (λ z. coefficient z (10 ^ 12)) here);
      count = one_longer c.loop-m.m _ _ _ c.in_ok-push_ohms.ensures.value c.loop-m.invariant.count;
      small = c.in_ok-push_ohms.ensures.small;
    }
