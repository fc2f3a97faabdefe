use Rattle.fd_load.proofs.Drawn.{divisor-positive}
use Rattle.fd_load.proofs.power.divisor.Goals as goal

pub returns-in-ConstantPower-clause-positive : goal.returns-in-ConstantPower-clause-positive
returns-in-ConstantPower-clause-positive c = divisor-positive c.args.load.now c.args.p c.args.q c.args.m c.requires.load

pub returns-in-ConstantImpedance-clause-positive : goal.returns-in-ConstantImpedance-clause-positive
returns-in-ConstantImpedance-clause-positive c = divisor-positive c.args.load.now c.args.p c.args.q c.args.m c.requires.load

pub returns-in-ConstantCurrent-clause-positive : goal.returns-in-ConstantCurrent-clause-positive
returns-in-ConstantCurrent-clause-positive c = divisor-positive c.args.load.now c.args.p c.args.q c.args.m c.requires.load
