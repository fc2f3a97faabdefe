use Rattle.std.proofs.Common.{sym}
use Rattle.fd_inject.proofs.Limited.{range_err, range_ok}
use Rattle.fd_inject.proofs.ranges.test_range.Goals as goal

pub returns-in-Some-clause-range : goal.returns-in-Some-clause-range
returns-in-Some-clause-range c = range_err c.args.limit c.args.step c.args.xs.now c.in-Some.place (sym c.in-Some.ensures.first)

pub returns-in-None-clause-range : goal.returns-in-None-clause-range
returns-in-None-clause-range c = range_ok c.args.limit c.args.step c.args.xs.now (sym c.in-None.ensures.first)
