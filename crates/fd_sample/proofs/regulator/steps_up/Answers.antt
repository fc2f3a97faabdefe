use Rattle.std.proofs.Common.{sym, ◌∙◌, arith}
use Rattle.fd_sample.specs.Regulators.{fits_up}
use Rattle.fd_sample.proofs.Greatest.{greatest_at, greatest_before}
use Rattle.fd_sample.proofs.regulator.steps_up.Goals as goal

pub loop-n-preserved : goal.loop-n-preserved
loop-n-preserved c = record {
  few = omega (arith, c.loop-n.invariant.few);
  same = c.loop-n.invariant.same ∙ greatest_before (fits_up c.args.probe.now c.args.square) c.loop-n.n (omega (arith, c.loop-n-test.true))
      (sym c.is_up.ensures ∙ c.if-not-is_up.true);
}

pub returns-else-not-is_up : goal.returns-else-not-is_up
returns-else-not-is_up c = sym (c.loop-n.invariant.same ∙ greatest_at (fits_up c.args.probe.now c.args.square) c.loop-n.n (omega (arith, c.loop-n-test.true))
    (sym c.is_up.ensures ∙ c.if-not-is_up.false))
