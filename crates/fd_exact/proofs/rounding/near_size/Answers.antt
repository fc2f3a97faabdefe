use Rattle.fd_exact.specs.Nearest.{near_fits, near_least, near_most}
use Rattle.fd_exact.proofs.rounding.near_size.Goals as goal

pub returns-clause-most : goal.returns-clause-most
returns-clause-most c = λ q h. near_most c.args.n c.args.divisor q c.requires.positive h

pub returns-clause-least : goal.returns-clause-least
returns-clause-least c = λ q h. near_least c.args.n c.args.divisor q c.requires.positive h

pub returns-clause-fits : goal.returns-clause-fits
returns-clause-fits c = near_fits c.args.n c.args.divisor c.requires.positive
