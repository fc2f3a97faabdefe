use Rattle.std.proofs.Common.{sym, ◌∙◌, arith}
use Rattle.fd_sample.specs.Regulators.{fits_down}
use Rattle.fd_sample.proofs.Greatest.{greatest_at, greatest_before}
use Rattle.fd_sample.proofs.regulator.steps_down.Goals as goal

pub loop-n-preserved : goal.loop-n-preserved
loop-n-preserved c = record {
  few = omega (arith, c.loop-n.invariant.few);
  same = c.loop-n.invariant.same ∙ greatest_before (fits_down c.args.probe.now c.args.square) c.loop-n.n (omega (arith, c.loop-n-test.true))
      (sym c.is_down.ensures ∙ c.if-not-is_down.true);
}

pub returns-else-not-is_down : goal.returns-else-not-is_down
returns-else-not-is_down c =
    sym (c.loop-n.invariant.same
    ∙ greatest_at (fits_down c.args.probe.now c.args.square) c.loop-n.n (omega (arith, c.loop-n-test.true))
    (sym c.is_down.ensures ∙ c.if-not-is_down.false))
