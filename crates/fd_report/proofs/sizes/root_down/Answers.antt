use Rattle.std.proofs.Common.{◌≤◌, ◌*◌, arith}
use Rattle.fd_sample.proofs.CallerLemmas.{root_is}
use Rattle.fd_report.proofs.Newton.{positive, step_is_above, step_is_below}
use Rattle.fd_report.proofs.sizes.root_down.Goals as goal

pub loop-root-preserved : goal.loop-root-preserved
loop-root-preserved c =
    let n = c.args.n in
    let root = c.loop-root.root in
    let below = step_is_below n root c.loop-root-test.true in
    record {
      small = omega (arith, below, c.loop-root.invariant.small);
      above = step_is_above n root (positive n root c.loop-root-test.true);
    }

pub returns-clause-value : goal.returns-clause-value
returns-clause-value c =
    let low : c.loop-root.root * c.loop-root.root ≤ c.args.n = omega (arith, c.loop-root-test.false) in
    root_is c.args.n c.loop-root.root (low, c.loop-root.invariant.above)
