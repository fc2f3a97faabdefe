use Rattle.std.proofs.Common.{◌∙◌, ◌^◌, to_z, of_z, ap, arith, rules}
use Rattle.std.specs.Int.{w128}
use Rattle.fd_source.specs.Equations.{resistance_of}
use Rattle.fd_rungs.specs.Numbers.{coefficient}
use Rattle.fd_rungs.proofs.Drops.{kept_by}
use Rattle.fd_rungs.proofs.Rows.{one_more, one_longer}
use Rattle.fd_rungs.proofs.sources.resistances.Goals as goal

pub loop-m-preserved : goal.loop-m-preserved
loop-m-preserved c =
    let here = kept_by c.impedance.result.0 (omega (arith, c.impedance.ensures.r_within)) ∙ c.impedance.ensures.r in
    record {
      value = one_more (λ m. coefficient (resistance_of c.args.source.now c.args.k m) (10 ^ 12)) c.loop-m.m _ _
          (coefficient (to_z w128 (of_z w128 c.impedance.result.0)) (10 ^ 12)) c.in_ok-push_ohms.ensures.value c.loop-m.invariant.value
          (ap (λ z. coefficient z (10 ^ 12)) here);
      count = one_longer c.loop-m.m _ _ _ c.in_ok-push_ohms.ensures.value c.loop-m.invariant.count;
      small = c.in_ok-push_ohms.ensures.small;
    }
