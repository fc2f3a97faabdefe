use Rattle.std.proofs.Common.{arith}
use Rattle.fd_elements.proofs.Reactive.{quotient_of_parts}
use Rattle.fd_elements.proofs.powers.scaled.Goals as goal

pub returns : goal.returns
returns c = quotient_of_parts c.args.n c.args.factor c.args.divisor (omega arith)
